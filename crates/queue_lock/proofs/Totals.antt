-- Sums over the numbers below a bound.
use Rattle.std.proofs.Common.{◌≡◌, ◌≢◌, ◌⊎◌, ℕ, zero, suc, ◌+◌, ◌<◌, ◌≤◌, refl, ap, inl, inr, arith}
use Rattle.std.proofs.lemmas.Bool.Decides.{nat_tests}
use Rattle.queue_lock.specs.View.{total}

pub total_same : (f g : ℕ → ℕ) (n : ℕ) → ((i : ℕ) → i < n → f i ≡ g i) → total f n ≡ total g n
unfolding total
total_same f g zero h = refl
total_same f g (suc n) h =
    let here = h n (omega arith) in
    let rest = total_same f g n (λ i l. h i (omega arith)) in
    omega arith

pub total_none : (f : ℕ → ℕ) (n : ℕ) → ((i : ℕ) → i < n → f i ≡ 0) → total f n ≡ 0
unfolding total
total_none f zero h = refl
total_none f (suc n) h =
    let here = h n (omega arith) in
    let rest = total_none f n (λ i l. h i (omega arith)) in
    omega arith

last_or_below : (k n : ℕ) → k < suc n → (k ≡ n) ⊎ (k < n)
last_or_below k n l = grind (arith, nat_tests)

-- a term is part of the sum
pub total_part : (f : ℕ → ℕ) (k n : ℕ) → k < n → f k ≤ total f n
unfolding total
total_part f k zero l = absurd (omega arith)
total_part f k (suc n) l =
    elim (last_or_below k n l) [
      | inl e ↦ (let a : f k ≡ f n = ap f e in omega arith)
      | inr b ↦ (let rest = total_part f k n b in omega arith)
    ]

-- where one term changes, the sum changes by as much
pub total_change : (f g : ℕ → ℕ) (k n : ℕ) → k < n → ((i : ℕ) → i ≢ k → f i ≡ g i) → total g n + f k ≡ total f n + g k
unfolding total
total_change f g k zero l h = absurd (omega arith)
total_change f g k (suc n) l h =
    elim (last_or_below k n l) [
      | inl e ↦ (let a : f k ≡ f n = ap f e in let b : g k ≡ g n = ap g e in let rest = total_same f g n (λ i low. h i (λ s. omega arith)) in omega arith)
      | inr b ↦ (let here = h n (λ s. omega arith) in let rest = total_change f g k n b h in omega arith)
    ]
