-- Harts as bits.
use Rattle.std.proofs.Common.{◌≡◌, ℕ, ◌+◌, ◌-◌, ◌*◌, ◌/◌, ◌%◌, ◌^◌, ◌<◌, Bool, true, false, cond, not, ◌&&◌, ◌||◌, min, max, refl, sym, ap, ◌∙◌, arith, suc}
use Rattle.std.specs.Prelude.{◌==◌}
use Rattle.std.specs.Int.{bit_at, bit_not, w32}
use Rattle.std.proofs.lemmas.Bool.Decides.{nat_tests}
use Rattle.std.proofs.lemmas.Nat.{pow_below}
use Rattle.std.proofs.lemmas.Nat.Bits.{bit_at-lt, bit_at-zero, bit_at-suc, bit_at_lowest, bit_at_or, bit_at_and, bit_at_not, bit_at-pow_same, bit_at-pow_other, same_from_bits}
use Rattle.snoop_bus.specs.Holding.{has_hart, alone, with_hart, without_hart}

pow_bit : (k i b : ℕ) → b ≡ bit_at (2 ^ k) i → b ≡ cond (i == k) 1 0
pow_bit k i b e = grind (arith, nat_tests, bit_at-pow_same k, bit_at-pow_other k i)

pub has_hart-alone : (k i : ℕ) → has_hart (alone k) i ≡ (i == k)
unfolding has_hart alone
has_hart-alone k i =
    let bit = pow_bit k i (bit_at (2 ^ k) i) refl in
    rw bit (elim (i == k) as (λ b. (cond b 1 0 == 1) ≡ b) [ true ↦ refl | false ↦ refl ])

or_test : (a b : ℕ) (t : Bool) → a < 2 → b ≡ cond t 1 0 → (max a b == 1) ≡ (t || (a == 1))
or_test a b true low e = grind (arith, nat_tests)
or_test a b false low e = grind (arith, nat_tests)

pub has_hart-with_hart : (n k i : ℕ) → has_hart (with_hart n k) i ≡ ((i == k) || has_hart n i)
unfolding has_hart with_hart
has_hart-with_hart n k i =
    ap (λ b. b == 1) (bit_at_or n (2 ^ k) i) ∙ or_test (bit_at n i) (bit_at (2 ^ k) i) (i == k) (bit_at-lt n i) (pow_bit k i _ refl)

and_test : (a b : ℕ) (t : Bool) → a < 2 → b ≡ 1 - cond t 1 0 → (min a b == 1) ≡ (not t && (a == 1))
and_test a b true low e = grind (arith, nat_tests)
and_test a b false low e = grind (arith, nat_tests)

pub has_hart-without_hart : (n k i : ℕ) → k < 32 → i < 32 → has_hart (without_hart n k) i ≡ (not (i == k) && has_hart n i)
unfolding has_hart without_hart
has_hart-without_hart n k i k_low i_low =
    ap (λ b. b == 1) (bit_at_and n (bit_not w32 (2 ^ k)) i)
    ∙ and_test (bit_at n i) (bit_at (bit_not w32 (2 ^ k)) i) (i == k) (bit_at-lt n i) (bit_at_not w32 (2 ^ k) i (pow_below k 32 k_low) i_low ∙ ap (λ b. 1 - b) (pow_bit k i _ refl))

least_test : (a b : ℕ) → a < 2 → b < 2 → (min a b == 1) ≡ true → (a == 1) ≡ true
least_test a b low low' e = grind (arith, nat_tests)

-- no hart joins by leaving out another
pub has_hart-without_hart_only : (n k i : ℕ) → has_hart (without_hart n k) i ≡ true → has_hart n i ≡ true
unfolding has_hart without_hart
has_hart-without_hart_only n k i e =
    least_test (bit_at n i) (bit_at (bit_not w32 (2 ^ k)) i) (bit_at-lt n i) (bit_at-lt (bit_not w32 (2 ^ k)) i) (sym (ap (λ b. b == 1) (bit_at_and n (bit_not w32 (2 ^ k)) i)) ∙ e)

pub has_hart-zero : (i : ℕ) → has_hart 0 i ≡ false
unfolding has_hart
has_hart-zero i = ap (λ b. b == 1) (bit_at-zero i)

same_bit : (a b : ℕ) → a < 2 → b < 2 → (a == 1) ≡ (b == 1) → a ≡ b
same_bit a b low low' e = grind (arith, nat_tests)

-- holders with the same harts are equal
pub same_holders : (a b : ℕ) → ((i : ℕ) → has_hart a i ≡ has_hart b i) → a ≡ b
unfolding has_hart
same_holders a b same = same_from_bits a b (λ i. same_bit _ _ (bit_at-lt a i) (bit_at-lt b i) (same i))

-- one hart before the others
pub has_hart-first : (b : Bool) (n : ℕ) → has_hart (cond b 1 0 + 2 * n) 0 ≡ b
unfolding has_hart
has_hart-first true n = let odd : (1 + 2 * n) % 2 ≡ 1 = omega arith in ap (λ k. k == 1) (bit_at_lowest (1 + 2 * n) ∙ odd)
has_hart-first false n = let even : (0 + 2 * n) % 2 ≡ 0 = omega arith in ap (λ k. k == 1) (bit_at_lowest (0 + 2 * n) ∙ even)

half : (b : Bool) (n : ℕ) → (cond b 1 0 + 2 * n) / 2 ≡ n
half true n = omega arith
half false n = omega arith

pub has_hart-later : (b : Bool) (n i : ℕ) → has_hart (cond b 1 0 + 2 * n) (suc i) ≡ has_hart n i
unfolding has_hart
has_hart-later b n i = ap (λ k. k == 1) (bit_at-suc (cond b 1 0 + 2 * n) i ∙ ap (λ k. bit_at k i) (half b n))

-- one hart as the code writes it: `1 << hart`
pub alone_shifted : (h : ℕ) → h < 32 → 1 * 2 ^ h % 2 ^ 32 ≡ alone h
unfolding alone
alone_shifted h low = let small = pow_below h 32 low in omega arith

pub ruleset hart_bits = (has_hart-alone, has_hart-with_hart, has_hart-without_hart, has_hart-zero)
