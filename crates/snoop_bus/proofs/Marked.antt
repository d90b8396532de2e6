-- Levels with marks of ownership as one hart's caches, and what each change is to the caches.
use Rattle.std.proofs.Common.{◌≡◌, ℕ, ◌<◌, ◌%◌, Bool, true, false, cond, not, ◌&&◌, List, length, get_or, set, refl, sym, ap, ◌∙◌, arith, length-set}
use Rattle.std.specs.Prelude.{◌==◌}
use Rattle.std.specs.Cmp.{nat_cmp_total}
use Rattle.std.specs.FinMap.{keys, contains_key-keys}
use Rattle.std.specs.FinSet.{contains, contains-from_list}
use Rattle.std.proofs.lemmas.List.{get_or-set_same, get_or-set_other, get_or_default}
use Rattle.std.proofs.lemmas.Bool.Decides.{nat_tests}
use Rattle.dash_base.specs.declared.line.Line.{Line}
use Rattle.cache_array.specs.View.{ArrayView, copy_at, has_line, empty_array, with_copy, without_line, HasRoom, IsOnePerIndex}
use Rattle.cache_array.proofs.LawsOffered.{copy_at-empty_array, copy_at-with_copy, copy_at-without_line, lines-empty_array, lines-with_copy, lines-without_line}
use Rattle.cache_levels.specs.View.{LevelsView, empty_levels, with_level_copy, without_level_line, after_read}
use Rattle.cache_levels.proofs.LawsOffered.{contains-retain_nat, l2-empty_levels, l2-with_level_copy, l2-without_level_line, l2-after_read}
use Rattle.snoop_bus.specs.Caches.{CachesView, owns, no_caches, caches_with, caches_written, caches_without, caches_shared, caches_read}
use Rattle.snoop_bus.specs.Marks.{lines_in, owned_in, AreMarks}
use Rattle.snoop_bus.proofs.CachesLines.{levels-no_caches, levels-caches_with, levels-caches_written, levels-caches_without, levels-caches_shared, levels-caches_read, owns-no_caches, owns-caches_with, owns-caches_written, owns-caches_without, owns-caches_shared, owns-caches_read, same_caches}

abbrev pub caches_of : List Bool → LevelsView → CachesView
caches_of marks v = record { levels = v; owned = owned_in marks v.l2 }

contains-lines_in : (a : ArrayView) (q : ℕ) → contains (lines_in a) q ≡ has_line a q
unfolding lines_in copy_at
contains-lines_in a q = contains-from_list nat_cmp_total (keys a.copies) q ∙ sym (contains_key-keys a.copies q)

pub owns-caches_of : (marks : List Bool) (v : LevelsView) (q : ℕ) → owns (caches_of marks v) q ≡ (has_line v.l2 q && get_or marks (q % v.l2.lines) false)
unfolding owns owned_in
owns-caches_of marks v q =
    contains-retain_nat (lines_in v.l2) (λ line. get_or marks (line % v.l2.lines) false) q
    ∙ ap (λ b. b && get_or marks (q % v.l2.lines) false) (contains-lines_in v.l2 q)

-- the same by the array alone
abbrev marked : List Bool → ArrayView → ℕ → Bool
marked marks a q = has_line a q && get_or marks (q % a.lines) false

marked-with : (marks : List Bool) (a : ArrayView) (l : ℕ) (c : Line) (own : Bool) → AreMarks marks a → HasRoom a l → (q : ℕ) (i j : ℕ) → i ≡ l % length marks → j ≡ q % a.lines → (has_line (with_copy a l c) q && get_or (set marks i own) j false) ≡ cond (q == l) own (marked marks a q)
marked-with marks a l c own m room q i j is js =
    let low : i < length marks = omega (arith, m.some) in
    grind (arith, nat_tests, copy_at-with_copy a l c q, room.alone q, m.each, get_or-set_same marks i own false low, get_or-set_other marks i j own false)

pub caches_of-with : (marks : List Bool) (v : LevelsView) (l : ℕ) (c : Line) (own : Bool) → AreMarks marks v.l2 → HasRoom v.l2 l → caches_of (set marks (l % length marks) own) (with_level_copy v l c) ≡ caches_with (caches_of marks v) l c own
caches_of-with marks v l c own m room =
    let new = set marks (l % length marks) own in
    same_caches _ _ (sym (levels-caches_with (caches_of marks v) l c own))
    (λ q. owns-caches_of new (with_level_copy v l c) q
    ∙ ap (λ (a : ArrayView). marked new a q) (l2-with_level_copy v l c)
    ∙ marked-with marks v.l2 l c own m room q (l % length marks) (q % (with_copy v.l2 l c).lines) refl (ap (λ n. q % n) (lines-with_copy v.l2 l c))
    ∙ sym (owns-caches_with (caches_of marks v) l c own q ∙ ap (cond (q == l) own) (owns-caches_of marks v q)))

pub marks-with : (marks : List Bool) (v : LevelsView) (l : ℕ) (c : Line) (own : Bool) (i : ℕ) → AreMarks marks v.l2 → AreMarks (set marks i own) (with_level_copy v l c).l2
marks-with marks v l c own i m = record {
  some = grind (arith, m.some, length-set {A = Bool});
  each = grind (arith, m.each, length-set {A = Bool}, l2-with_level_copy v l c, lines-with_copy v.l2 l c);
}

marked-written : (marks : List Bool) (a : ArrayView) (l : ℕ) (c : Line) → has_line a l ≡ true → (q : ℕ) → marked marks (with_copy a l c) q ≡ marked marks a q
marked-written marks a l c held q =
    grind (arith, nat_tests, copy_at-with_copy a l c q, lines-with_copy a l c)

pub caches_of-written : (marks : List Bool) (v : LevelsView) (l : ℕ) (c : Line) → has_line v.l2 l ≡ true → caches_of marks (with_level_copy v l c) ≡ caches_written (caches_of marks v) l c
caches_of-written marks v l c held =
    same_caches _ _ (sym (levels-caches_written (caches_of marks v) l c))
    (λ q. owns-caches_of marks (with_level_copy v l c) q
    ∙ ap (λ (a : ArrayView). marked marks a q) (l2-with_level_copy v l c)
    ∙ marked-written marks v.l2 l c held q
    ∙ sym (owns-caches_written (caches_of marks v) l c q ∙ owns-caches_of marks v q))

marked-without : (marks : List Bool) (a : ArrayView) (l q : ℕ) → marked marks (without_line a l) q ≡ (not (q == l) && marked marks a q)
marked-without marks a l q = grind (arith, nat_tests, copy_at-without_line a l q, lines-without_line a l)

pub caches_of-without : (marks : List Bool) (v : LevelsView) (l : ℕ) → caches_of marks (without_level_line v l) ≡ caches_without (caches_of marks v) l
caches_of-without marks v l =
    same_caches _ _ (sym (levels-caches_without (caches_of marks v) l))
    (λ q. owns-caches_of marks (without_level_line v l) q
    ∙ ap (λ (a : ArrayView). marked marks a q) (l2-without_level_line v l)
    ∙ marked-without marks v.l2 l q
    ∙ sym (owns-caches_without (caches_of marks v) l q ∙ ap (λ b. not (q == l) && b) (owns-caches_of marks v q)))

marked-shared : (marks : List Bool) (a : ArrayView) (l : ℕ) → AreMarks marks a → IsOnePerIndex a → has_line a l ≡ true → (q i j : ℕ) → i ≡ l % length marks → j ≡ q % a.lines → (has_line a q && get_or (set marks i false) j false) ≡ (not (q == l) && (has_line a q && get_or marks j false))
marked-shared marks a l m one held q i j is js =
    let low : i < length marks = omega (arith, m.some) in
    grind (arith, nat_tests, (one.one l held).alone q, m.each, get_or-set_same marks i false false low, get_or-set_other marks i j false false)

pub caches_of-shared : (marks : List Bool) (v : LevelsView) (l : ℕ) → AreMarks marks v.l2 → IsOnePerIndex v.l2 → has_line v.l2 l ≡ true → caches_of (set marks (l % length marks) false) v ≡ caches_shared (caches_of marks v) l
caches_of-shared marks v l m one held =
    same_caches _ _ (sym (levels-caches_shared (caches_of marks v) l))
    (λ q. owns-caches_of (set marks (l % length marks) false) v q
    ∙ marked-shared marks v.l2 l m one held q (l % length marks) (q % v.l2.lines) refl refl
    ∙ sym (owns-caches_shared (caches_of marks v) l q ∙ ap (λ b. not (q == l) && b) (owns-caches_of marks v q)))

marked-lacking : (marks : List Bool) (a : ArrayView) (l : ℕ) → has_line a l ≡ false → (q : ℕ) → marked marks a q ≡ (not (q == l) && marked marks a q)
marked-lacking marks a l lacks q = grind (arith, nat_tests)

pub caches_of-lacking : (marks : List Bool) (v : LevelsView) (l : ℕ) → has_line v.l2 l ≡ false → caches_of marks v ≡ caches_shared (caches_of marks v) l
caches_of-lacking marks v l lacks =
    same_caches _ _ (sym (levels-caches_shared (caches_of marks v) l))
    (λ q. owns-caches_of marks v q
    ∙ marked-lacking marks v.l2 l lacks q
    ∙ sym (owns-caches_shared (caches_of marks v) l q ∙ ap (λ b. not (q == l) && b) (owns-caches_of marks v q)))

pub caches_of-read : (marks : List Bool) (v : LevelsView) (l : ℕ) → caches_of marks (after_read v l) ≡ caches_read (caches_of marks v) l
caches_of-read marks v l =
    same_caches _ _ (sym (levels-caches_read (caches_of marks v) l))
    (λ q. owns-caches_of marks (after_read v l) q
    ∙ ap (λ (a : ArrayView). marked marks a q) (l2-after_read v l)
    ∙ sym (owns-caches_read (caches_of marks v) l q ∙ owns-caches_of marks v q))

marked-empty : (marks : List Bool) (n q : ℕ) → marked marks (empty_array n) q ≡ false
marked-empty marks n q = grind (arith, copy_at-empty_array n q)

pub caches_of-empty : (marks : List Bool) (m n : ℕ) → caches_of marks (empty_levels m n) ≡ no_caches m n
caches_of-empty marks m n =
    same_caches _ _ (sym (levels-no_caches m n))
    (λ q. owns-caches_of marks (empty_levels m n) q
    ∙ ap (λ (a : ArrayView). marked marks a q) (l2-empty_levels m n)
    ∙ marked-empty marks n q
    ∙ sym (owns-no_caches m n q))

-- there stays a mark at each index
pub marks-written : (marks : List Bool) (v : LevelsView) (l : ℕ) (c : Line) → AreMarks marks v.l2 → AreMarks marks (with_level_copy v l c).l2
marks-written marks v l c m = record {
  some = m.some;
  each = grind (arith, m.each, l2-with_level_copy v l c, lines-with_copy v.l2 l c);
}

pub marks-without : (marks : List Bool) (v : LevelsView) (l : ℕ) → AreMarks marks v.l2 → AreMarks marks (without_level_line v l).l2
marks-without marks v l m = record {
  some = m.some;
  each = grind (arith, m.each, l2-without_level_line v l, lines-without_line v.l2 l);
}

pub marks-read : (marks : List Bool) (v : LevelsView) (l : ℕ) → AreMarks marks v.l2 → AreMarks marks (after_read v l).l2
marks-read marks v l m = record {
  some = m.some;
  each = grind (arith, m.each, l2-after_read v l);
}

pub marks-empty : (marks : List Bool) (m n : ℕ) → 0 < n → length marks ≡ n → AreMarks marks (empty_levels m n).l2
marks-empty marks m n some long = record {
  some = grind (arith, some, long);
  each = grind (arith, long, l2-empty_levels m n, lines-empty_array n);
}

-- the mark at the index of a line that is there, and no mark of one that is not
pub mark_at : (marks : List Bool) (v : LevelsView) (l i : ℕ) (b : Bool) → AreMarks marks v.l2 → has_line v.l2 l ≡ true → i ≡ l % length marks → i < length marks → b ≡ get_or marks i b → b ≡ owns (caches_of marks v) l
mark_at marks v l i b m held is low at =
    let place : l % v.l2.lines ≡ i = ap (λ n. l % n) (sym m.each) ∙ sym is in
    grind (arith, owns-caches_of marks v l, place, get_or_default marks i b false low)

pub no_mark : (marks : List Bool) (v : LevelsView) (l : ℕ) → has_line v.l2 l ≡ false → owns (caches_of marks v) l ≡ false
no_mark marks v l lacks = grind (arith, owns-caches_of marks v l)
