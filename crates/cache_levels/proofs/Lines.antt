-- Each change of two levels, read at any line; and levels that read alike are equal.
use Rattle.std.proofs.Common.{◌≡◌, ℕ, ◌%◌, true, false, cond, not, ◌&&◌, ◌||◌, refl, ap, ◌∙◌, arith}
use Rattle.std.specs.Prelude.{◌==◌}
use Rattle.std.specs.Ordering.{nat_cmp}
use Rattle.std.specs.FinSet.{contains-empty, retain}
use Rattle.std.proofs.lemmas.Bool.Decides.{nat_tests}
use Rattle.dash_base.specs.declared.line.Line.{Line}
use Rattle.cache_array.specs.View.{has_line, empty_array, with_copy, without_line}
use Rattle.cache_array.proofs.LawsOffered.{copy_at-with_copy, copy_at-without_line}
use Rattle.cache_levels.specs.View.{LevelsView, in_l1, empty_levels, with_level_copy, without_level_line, entered, after_read, IsPartOfL2}
use Rattle.cache_levels.proofs.Sets.{contains-insert_nat, contains-remove_nat, contains-retain_nat, same_nat_set}

pub l2-empty_levels : (m n : ℕ) → (empty_levels m n).l2 ≡ empty_array n
unfolding empty_levels
l2-empty_levels m n = refl

pub l2-with_level_copy : (v : LevelsView) (l : ℕ) (c : Line) → (with_level_copy v l c).l2 ≡ with_copy v.l2 l c
unfolding with_level_copy
l2-with_level_copy v l c = refl

pub l2-without_level_line : (v : LevelsView) (l : ℕ) → (without_level_line v l).l2 ≡ without_line v.l2 l
unfolding without_level_line
l2-without_level_line v l = refl

pub l2-after_read : (v : LevelsView) (l : ℕ) → (after_read v l).l2 ≡ v.l2
unfolding after_read entered
l2-after_read v l = elim (has_line v.l2 l && not (in_l1 v l)) as (λ b. (cond b (entered v l) v).l2 ≡ v.l2) [ true ↦ refl | false ↦ refl ]

pub l1_lines-empty_levels : (m n : ℕ) → (empty_levels m n).l1_lines ≡ m
unfolding empty_levels
l1_lines-empty_levels m n = refl

pub l1_lines-with_level_copy : (v : LevelsView) (l : ℕ) (c : Line) → (with_level_copy v l c).l1_lines ≡ v.l1_lines
unfolding with_level_copy
l1_lines-with_level_copy v l c = refl

pub l1_lines-without_level_line : (v : LevelsView) (l : ℕ) → (without_level_line v l).l1_lines ≡ v.l1_lines
unfolding without_level_line
l1_lines-without_level_line v l = refl

pub l1_lines-after_read : (v : LevelsView) (l : ℕ) → (after_read v l).l1_lines ≡ v.l1_lines
unfolding after_read entered
l1_lines-after_read v l = elim (has_line v.l2 l && not (in_l1 v l)) as (λ b. (cond b (entered v l) v).l1_lines ≡ v.l1_lines) [ true ↦ refl | false ↦ refl ]

pub in_l1-empty_levels : (m n q : ℕ) → in_l1 (empty_levels m n) q ≡ false
unfolding in_l1 empty_levels
in_l1-empty_levels m n q = contains-empty nat_cmp q

pub in_l1-with_level_copy : (v : LevelsView) (l : ℕ) (c : Line) (q : ℕ) → in_l1 (with_level_copy v l c) q ≡ in_l1 v q
unfolding in_l1 with_level_copy
in_l1-with_level_copy v l c q = refl

pub in_l1-without_level_line : (v : LevelsView) (l q : ℕ) → in_l1 (without_level_line v l) q ≡ (not (q == l) && in_l1 v q)
unfolding in_l1 without_level_line
in_l1-without_level_line v l q = contains-remove_nat v.l1 l q

in_l1-entered : (v : LevelsView) (l q : ℕ) → in_l1 (entered v l) q ≡ ((q == l) || (in_l1 v q && not (q % v.l1_lines == l % v.l1_lines)))
unfolding in_l1 entered
in_l1-entered v l q =
    contains-insert_nat (retain v.l1 (λ other. not (other % v.l1_lines == l % v.l1_lines))) l q
    ∙ ap (λ b. (q == l) || b) (contains-retain_nat v.l1 (λ other. not (other % v.l1_lines == l % v.l1_lines)) q)

pub in_l1-after_read : (v : LevelsView) (l q : ℕ) → in_l1 (after_read v l) q ≡ cond (has_line v.l2 l && not (in_l1 v l)) ((q == l) || (in_l1 v q && not (q % v.l1_lines == l % v.l1_lines))) (in_l1 v q)
unfolding after_read
in_l1-after_read v l q =
    elim (has_line v.l2 l && not (in_l1 v l)) as (λ b. in_l1 (cond b (entered v l) v) q ≡ cond b ((q == l) || (in_l1 v q && not (q % v.l1_lines == l % v.l1_lines))) (in_l1 v q)) [
      | true ↦ in_l1-entered v l q
      | false ↦ refl
    ]

-- levels with as many indexes in L1, the same lines in L1 and the same L2 are equal
pub same_levels : (v w : LevelsView) → v.l1_lines ≡ w.l1_lines → ((q : ℕ) → in_l1 v q ≡ in_l1 w q) → v.l2 ≡ w.l2 → v ≡ w
unfolding in_l1
same_levels v w lines near below =
    let same = same_nat_set v.l1 w.l1 near in
    λ i. record { l1_lines = lines i; l1 = same i; l2 = below i }

-- L1 stays a part of L2
pub part-with_level_copy : (v : LevelsView) (l : ℕ) (c : Line) → IsPartOfL2 v → IsPartOfL2 (with_level_copy v l c)
part-with_level_copy v l c p = record {
  within = λ q near.
      grind (arith, nat_tests, in_l1-with_level_copy v l c q, l2-with_level_copy v l c, copy_at-with_copy v.l2 l c q, p.within q);
}

pub part-without_level_line : (v : LevelsView) (l : ℕ) → IsPartOfL2 v → IsPartOfL2 (without_level_line v l)
part-without_level_line v l p = record {
  within = λ q near.
      grind (arith, nat_tests, in_l1-without_level_line v l q, l2-without_level_line v l, copy_at-without_line v.l2 l q, p.within q);
}

pub part-after_read : (v : LevelsView) (l : ℕ) → IsPartOfL2 v → IsPartOfL2 (after_read v l)
part-after_read v l p = record {
  within = λ q near.
      grind (arith, nat_tests, in_l1-after_read v l q, l2-after_read v l, p.within q);
}

pub part-empty_levels : (m n : ℕ) → IsPartOfL2 (empty_levels m n)
part-empty_levels m n = record { within = λ q near. grind (arith, in_l1-empty_levels m n q) }
