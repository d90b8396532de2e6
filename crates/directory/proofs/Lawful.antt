-- The bits of an entry are a set, and a message that is served changes one line: the laws of homes, proved.
use Rattle.std.proofs.Common.{◌≡◌, ◌≢◌, ◌<◌, ℕ, ◌^◌, Bool, true, false, cond, ◌||◌, max, Some, refl, ap, ◌∙◌, arith}
use Rattle.std.specs.Prelude.{◌==◌}
use Rattle.std.specs.Int.{bit_at}
use Rattle.std.specs.FinMap.{get}
use Rattle.std.proofs.lemmas.Bool.Decides.{nat_tests}
use Rattle.std.proofs.lemmas.Nat.Bits.{bit_at-lt, bit_at_or, bit_at-pow_same, bit_at-pow_other}
use Rattle.directory.specs.declared.home_line.HomeLine.{HomeLine}
use Rattle.directory.specs.Sharers.{is_sharer, only, with_sharer}
use Rattle.directory.specs.View.{HomeView, is_home, kept_in, kept_at, with_kept, after_line}
use Rattle.directory.specs.Laws.{SharersAreSets, ServingChangesOneLine}
use Rattle.directory.proofs.Maps.{get-insert_nat}

pow_bit : (c i b : ℕ) → b ≡ bit_at (2 ^ c) i → b ≡ cond (i == c) 1 0
pow_bit c i b e = grind (arith, nat_tests, bit_at-pow_same c, bit_at-pow_other c i)

is_sharer-only : (c i : ℕ) → is_sharer (only c) i ≡ (i == c)
is_sharer-only c i =
    let bit = pow_bit c i (bit_at (2 ^ c) i) refl in
    rw bit (elim (i == c) as (λ b. (cond b 1 0 == 1) ≡ b) [ true ↦ refl | false ↦ refl ])

or_test : (a b : ℕ) (t : Bool) → a < 2 → b ≡ cond t 1 0 → (max a b == 1) ≡ (t || (a == 1))
or_test a b true low e = grind (arith, nat_tests)
or_test a b false low e = grind (arith, nat_tests)

is_sharer-with_sharer : (s c i : ℕ) → is_sharer (with_sharer s c) i ≡ ((i == c) || is_sharer s i)
is_sharer-with_sharer s c i =
    ap (λ b. b == 1) (bit_at_or s (2 ^ c) i) ∙ or_test (bit_at s i) (bit_at (2 ^ c) i) (i == c) (bit_at-lt s i) (pow_bit c i _ refl)

pub sharers_are_sets : SharersAreSets
sharers_are_sets = record { alone = is_sharer-only; joined = is_sharer-with_sharer }

kept_at-with_kept : (h : HomeView) (l q : ℕ) (k : HomeLine) → kept_at (with_kept h l k) q ≡ cond (q == l) k (kept_at h q)
unfolding kept_at with_kept
kept_at-with_kept h l q k = ap kept_in (get-insert_nat h.kept l k q) ∙ either (q == l)
  where
    either : (b : Bool) → kept_in (cond b (Some k) (get h.kept q)) ≡ cond b k (kept_in (get h.kept q))
    either true = refl
    either false = refl

is_home-with_kept : (h : HomeView) (l q : ℕ) (k : HomeLine) → is_home (with_kept h l k) q ≡ is_home h q
unfolding with_kept
is_home-with_kept h l q k = refl

chosen : (q l : ℕ) (k j : HomeLine) → q ≡ l → cond (q == l) k j ≡ k
chosen q l k j same = grind (arith, nat_tests)

passed : (q l : ℕ) (k j : HomeLine) → q ≢ l → cond (q == l) k j ≡ j
passed q l k j apart = grind (arith, nat_tests)

pub serving_changes_one_line : ServingChangesOneLine
serving_changes_one_line = record {
  line = λ h from msg l is.
      ap (λ o. kept_at (after_line h from msg o) l.0) is ∙ kept_at-with_kept h l.0 l.0 _ ∙ chosen l.0 l.0 _ _ refl;
  others = λ h from msg l other is apart.
      ap (λ o. kept_at (after_line h from msg o) other) is ∙ kept_at-with_kept h l.0 other _ ∙ passed other l.0 _ _ apart;
  homes = λ h from msg l other is.
      ap (λ o. is_home (after_line h from msg o) other) is ∙ is_home-with_kept h l.0 other _;
}
