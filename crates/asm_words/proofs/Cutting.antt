-- How a cut at the first byte that passes goes over the bytes before it.
use Rattle.std.proofs.Common.{◌≡◌, ℕ, ◌+◌, ◌<◌, ◌≤◌, Bool, true, false, not, cond, ltb, nat_lt, if◌then◌else◌, length, take, drop, List, [], ◌∷◌, Option, Some, None, refl, ap, sym, ◌∙◌, add_comm, arith}
use Rattle.std.specs.List.{position_or_len}
use Rattle.std.proofs.lemmas.Bool.Decides.{nat_tests}
use Rattle.asm_words.specs.Cuts.{before, behind, from_first}

take_more : (n x : ℕ) (xs : List ℕ) → take (1 + n) (x ∷ xs) ≡ x ∷ take n xs
take_more n x xs = rw (add_comm 1 n) (grind arith)

drop_more : (n x : ℕ) (xs : List ℕ) → drop (1 + n) (x ∷ xs) ≡ drop n xs
drop_more n x xs = rw (add_comm 1 n) (grind arith)

before_step : (b : Bool) (k c : ℕ) (cs : List ℕ) → take (cond (not b) (1 + k) 0) (c ∷ cs) ≡ (if b then [] else c ∷ take k cs)
before_step true k c cs = refl
before_step false k c cs = take_more k c cs

pub before_cons : (p : ℕ → Bool) (c : ℕ) (cs : List ℕ) → before p (c ∷ cs) ≡ (if p c then [] else c ∷ before p cs)
unfolding before
before_cons p c cs = before_step (p c) (position_or_len p cs) c cs

pub from_step : (b : Bool) (k c : ℕ) (cs : List ℕ) → drop (cond (not b) (1 + k) 0) (c ∷ cs) ≡ (if b then c ∷ cs else drop k cs)
from_step true k c cs = refl
from_step false k c cs = drop_more k c cs

pub from_first_cons : (p : ℕ → Bool) (c : ℕ) (cs : List ℕ) → from_first p (c ∷ cs) ≡ (if p c then c ∷ cs else from_first p cs)
unfolding from_first
from_first_cons p c cs = from_step (p c) (position_or_len p cs) c cs

test_more : (k n : ℕ) → nat_lt (1 + k) (n + 1) ≡ nat_lt k n
test_more k n = grind (arith, nat_tests)

lengthened : (c : ℕ) (cs : List ℕ) → length (c ∷ cs) ≡ length cs + 1
lengthened c cs = omega arith

dropped : (k c : ℕ) (cs : List ℕ) → drop (1 + k + 1) (c ∷ cs) ≡ drop (k + 1) cs
dropped k c cs = let e : 1 + k + 1 ≡ 1 + (k + 1) = omega arith in rw e (drop_more (k + 1) c cs)

behind_step : (b : Bool) (k c : ℕ) (cs : List ℕ)
    → (if nat_lt (cond (not b) (1 + k) 0) (length (c ∷ cs)) then Some (drop (cond (not b) (1 + k) 0 + 1) (c ∷ cs)) else None)
    ≡ (if b then Some cs else (if nat_lt k (length cs) then Some (drop (k + 1) cs) else None))
behind_step true k c cs = let some : nat_lt 0 (length (c ∷ cs)) ≡ true = grind (arith, nat_tests) in rw some refl
behind_step false k c cs = rw (lengthened c cs, test_more k (length cs), dropped k c cs) refl

pub behind_cons : (p : ℕ → Bool) (c : ℕ) (cs : List ℕ) → behind p (c ∷ cs) ≡ (if p c then Some cs else behind p cs)
unfolding behind
behind_cons p c cs = behind_step (p c) (position_or_len p cs) c cs

pub before_nil : (p : ℕ → Bool) → before p [] ≡ []
unfolding before
before_nil p = refl

pub behind_nil : (p : ℕ → Bool) → behind p [] ≡ None
unfolding behind
behind_nil p = refl

pub from_first_nil : (p : ℕ → Bool) → from_first p [] ≡ []
unfolding from_first
from_first_nil p = refl
