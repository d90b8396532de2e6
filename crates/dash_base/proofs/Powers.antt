-- Powers of two, by their one digit.
use Rattle.std.proofs.Common.{◌≡◌, ℕ, ◌+◌, ◌-◌, ◌*◌, ◌/◌, ◌%◌, ◌^◌, ◌≤◌, ◌<◌, ◌⊎◌, inl, inr, zero, suc, refl, sym, ap, ◌∙◌, subst, arith}
use Rattle.std.proofs.lemmas.Nat.{zero_from_ones, pow-add}
use Rattle.std.proofs.Math.Nat.{mul-mod_left}
use Rattle.std.proofs.Math.Pow.{pow-lt}
use Rattle.std.proofs.lemmas.Bool.{cases_lt}
use Rattle.std.specs.Int.{IsPowerOfTwo}
use Rattle.std.specs.Int.RustNames.{count_ones}
use lib.Count.{ones_step}

digit_cases : (d : ℕ) → d < 2 → (d ≡ 0) ⊎ (d ≡ 1)
digit_cases zero low = inl refl
digit_cases (suc zero) low = inr refl
digit_cases (suc (suc d)) low = absurd (omega arith)

doubled : (n m k : ℕ) → n ≡ 2 * m → m ≡ 2 ^ k → n ≡ 2 ^ suc k
doubled n m k twice power =
    let more : 2 ^ (1 + k) ≡ 2 ^ 1 * 2 ^ k = pow-add 2 1 k in
    let same : suc k ≡ 1 + k = omega arith in
    twice ∙ ap (λ (x : ℕ). 2 * x) power ∙ sym more ∙ ap (λ (x : ℕ). 2 ^ x) (sym same)

by_digit : (d n : ℕ) → n ≤ suc d → count_ones n ≡ 1 → (n % 2 ≡ 0) ⊎ (n % 2 ≡ 1) → ((m : ℕ) → m ≤ d → count_ones m ≡ 1 → IsPowerOfTwo m) → IsPowerOfTwo n
by_digit d n small one (inl even) smaller =
    let rest : count_ones (n / 2) ≡ 1 = omega (arith, ones_step n) in
    let half : n / 2 ≤ d = omega arith in
    let (k, power) = smaller (n / 2) half rest in
    let twice : n ≡ 2 * (n / 2) = omega arith in
    (suc k, doubled n (n / 2) k twice power)
by_digit d n small one (inr odd) smaller =
    let rest : count_ones (n / 2) ≡ 0 = omega (arith, ones_step n) in
    let none = zero_from_ones (n / 2) rest in
    let is_one : n ≡ 1 = omega (arith, none) in
    (0, is_one)

no_digit : count_ones 0 ≡ 0
unfolding count_ones
no_digit = refl

power_within : (d n : ℕ) → n ≤ d → count_ones n ≡ 1 → IsPowerOfTwo n
power_within zero n small one =
    let none : n ≡ 0 = omega arith in
    let nothing : count_ones n ≡ 0 = ap count_ones none ∙ no_digit in
    absurd (omega (arith, nothing))
power_within (suc d) n small one =
    by_digit d n small one (digit_cases (n % 2) (omega arith)) (λ m low has. power_within d m low has)

-- a number with one digit set is a power of two
pub power_of_one_digit : (n : ℕ) → count_ones n ≡ 1 → IsPowerOfTwo n
power_of_one_digit n one = power_within n n (omega arith) one

aligned : (m k : ℕ) → m ≡ 2 ^ k → 16 ≤ k → m % 65536 ≡ 0
aligned m k power large =
    let split : k ≡ (k - 16) + 16 = omega arith in
    let parts : m ≡ 2 ^ (k - 16) * 2 ^ 16 = power ∙ ap (λ (x : ℕ). 2 ^ x) split ∙ pow-add 2 (k - 16) 16 in
    ap (λ (x : ℕ). x % 65536) parts ∙ mul-mod_left (2 ^ (k - 16)) 65536

below : (m k : ℕ) → m ≡ 2 ^ k → k < 16 → m < 65536
below m k power small = subst (λ (x : ℕ). x < 65536) (sym power) (pow-lt small)

by_exponent : (m k : ℕ) → m ≡ 2 ^ k → 65536 ≤ m → (k < 16) ⊎ (16 ≤ k) → m % 65536 ≡ 0
by_exponent m k power large (inl low) = absurd (omega (arith, below m k power low))
by_exponent m k power large (inr high) = aligned m k power high

-- a power of two of 65,536 or more is a multiple of it
pub power_in_pages : (m : ℕ) → IsPowerOfTwo m → 65536 ≤ m → m % 65536 ≡ 0
power_in_pages m (k, power) large = by_exponent m k power large (cases_lt k 16)
