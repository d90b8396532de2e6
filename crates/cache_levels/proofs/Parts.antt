-- A set of lines and an array as two levels, and what each change of the two is to the levels.
use Rattle.std.proofs.Common.{◌≡◌, ℕ, true, false, Some, None, refl, arith}
use Rattle.std.proofs.lemmas.Bool.Decides.{nat_tests}
use Rattle.dash_base.specs.declared.line.Line.{Line}
use Rattle.cache_array.specs.View.{ArrayView, copy_at, has_line, empty_array, with_copy, without_line, HasRoom}
use Rattle.cache_array.proofs.LawsOffered.{copy_at-with_copy, copy_at-without_line, one_per_index-empty_array, one_per_index-with_copy, one_per_index-without_line}
use Rattle.cache_levels.specs.LineSet.{LineSetView, has, empty_set, with_line, without}
use Rattle.cache_levels.specs.View.{LevelsView, in_l1, empty_levels, with_level_copy, without_level_line, entered, read_of, after_read, IsPartOfL2}
use Rattle.cache_levels.specs.Within.{IsWithin}
use Rattle.cache_levels.proofs.LineSets.{has-empty_set, has-with_line, has-without}

abbrev pub levels_of : LineSetView → ArrayView → LevelsView
levels_of l1 l2 = record { l1_lines = l1.lines; l1 = l1.held; l2 = l2 }

in_l1-levels_of : (l1 : LineSetView) (l2 : ArrayView) (q : ℕ) → in_l1 (levels_of l1 l2) q ≡ has l1 q
unfolding in_l1 has
in_l1-levels_of l1 l2 q = refl

pub levels_of-part : (l1 : LineSetView) (l2 : ArrayView) → IsWithin l1 l2 → IsPartOfL2 (levels_of l1 l2)
unfolding in_l1 has
levels_of-part l1 l2 w = record { within = w.part }

-- new levels
pub levels_of-empty : (m n : ℕ) → levels_of (empty_set m) (empty_array n) ≡ empty_levels m n
unfolding empty_set empty_levels
levels_of-empty m n = refl

pub within-empty : (m n : ℕ) → IsWithin (empty_set m) (empty_array n)
within-empty m n = record { part = λ q near. grind (arith, has-empty_set m q); l2_one = one_per_index-empty_array n }

-- a new copy of a line
pub levels_of-with_copy : (l1 : LineSetView) (l2 : ArrayView) (l : ℕ) (c : Line) → levels_of l1 (with_copy l2 l c) ≡ with_level_copy (levels_of l1 l2) l c
unfolding with_level_copy
levels_of-with_copy l1 l2 l c = refl

pub within-with_copy : (l1 : LineSetView) (l2 : ArrayView) (l : ℕ) (c : Line) → IsWithin l1 l2 → HasRoom l2 l → IsWithin l1 (with_copy l2 l c)
within-with_copy l1 l2 l c w room = record {
  part = λ q near. grind (arith, nat_tests, copy_at-with_copy l2 l c q, w.part q);
  l2_one = one_per_index-with_copy l2 l c w.l2_one room;
}

-- a line that leaves
pub levels_of-without : (l1 : LineSetView) (l2 : ArrayView) (l : ℕ) → levels_of (without l1 l) (without_line l2 l) ≡ without_level_line (levels_of l1 l2) l
unfolding without without_level_line
levels_of-without l1 l2 l = refl

pub within-without : (l1 : LineSetView) (l2 : ArrayView) (l : ℕ) → IsWithin l1 l2 → IsWithin (without l1 l) (without_line l2 l)
within-without l1 l2 l w = record {
  part = λ q near. grind (arith, nat_tests, has-without l1 l q, copy_at-without_line l2 l q, w.part q);
  l2_one = one_per_index-without_line l2 l w.l2_one;
}

-- a line of L2 that enters L1
levels_of-entered : (l1 : LineSetView) (l2 : ArrayView) (l : ℕ) → levels_of (with_line l1 l) l2 ≡ entered (levels_of l1 l2) l
unfolding with_line entered
levels_of-entered l1 l2 l = refl

pub within-entered : (l1 : LineSetView) (l2 : ArrayView) (l : ℕ) → IsWithin l1 l2 → has_line l2 l ≡ true → IsWithin (with_line l1 l) l2
within-entered l1 l2 l w held = record {
  part = λ q near. grind (arith, nat_tests, has-with_line l1 l q, w.part q);
  l2_one = w.l2_one;
}

-- a read: at level 1, at level 2, and of a line that is not there
pub reads_near : (l1 : LineSetView) (l2 : ArrayView) (l : ℕ) (c : Line) → has l1 l ≡ true → copy_at l2 l ≡ Some c → (Some (c, 1) ≡ read_of (levels_of l1 l2) l) × (levels_of l1 l2 ≡ after_read (levels_of l1 l2) l)
unfolding read_of after_read
reads_near l1 l2 l c near is = let here = in_l1-levels_of l1 l2 l in (grind (arith, here), grind (arith, here))

pub reads_far : (l1 : LineSetView) (l2 : ArrayView) (l : ℕ) (c : Line) → has l1 l ≡ false → copy_at l2 l ≡ Some c → (Some (c, 2) ≡ read_of (levels_of l1 l2) l) × (levels_of (with_line l1 l) l2 ≡ after_read (levels_of l1 l2) l)
unfolding read_of after_read
reads_far l1 l2 l c far is =
    let here = in_l1-levels_of l1 l2 l in
    let enters = levels_of-entered l1 l2 l in
    (grind (arith, here), grind (arith, here, enters))

pub reads_nothing : (l1 : LineSetView) (l2 : ArrayView) (l : ℕ) → copy_at l2 l ≡ None → (None ≡ read_of (levels_of l1 l2) l) × (levels_of l1 l2 ≡ after_read (levels_of l1 l2) l)
unfolding read_of after_read
reads_nothing l1 l2 l is = (grind arith, grind arith)
