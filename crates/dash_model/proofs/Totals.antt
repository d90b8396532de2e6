-- Sums over the numbers below a bound, and how many wait where each hart has one place at most.
use Rattle.std.proofs.Common.{◌≡◌, ◌≢◌, ◌⊎◌, ℕ, zero, suc, ◌+◌, ◌*◌, ◌≤◌, ◌<◌, List, [], ◌∷◌, length, refl, sym, ap, ◌∙◌, inl, inr, arith}
use Rattle.std.proofs.lemmas.Bool.Decides.{nat_tests}
use Rattle.dash_model.specs.Maps.{weigh, total}
use Rattle.dash_model.specs.Config.{Config, all_harts}
use Rattle.dash_model.specs.Part.{Waiter}
use Rattle.dash_model.specs.OnLine.{one}
use Rattle.dash_model.specs.LockFacts.{AllAreHarts, is_waiter}
use Rattle.dash_model.proofs.Tests.{one_same, one_other}

pub total_four : (a b c d : ℕ → ℕ) (n : ℕ) → ((i : ℕ) → i < n → a i + b i ≡ c i + d i) → total a n + total b n ≡ total c n + total d n
unfolding total
total_four a b c d zero h = refl
total_four a b c d (suc n) h =
    let here = h n (omega arith) in
    let rest = total_four a b c d n (λ i l. h i (omega arith)) in
    omega arith

pub total_same : (f g : ℕ → ℕ) (n : ℕ) → ((i : ℕ) → i < n → f i ≡ g i) → total f n ≡ total g n
unfolding total
total_same f g zero h = refl
total_same f g (suc n) h =
    let here = h n (omega arith) in
    let rest = total_same f g n (λ i l. h i (omega arith)) in
    omega arith

pub total_le : (f g : ℕ → ℕ) (n : ℕ) → ((i : ℕ) → i < n → f i ≤ g i) → total f n ≤ total g n
unfolding total
total_le f g zero h = omega arith
total_le f g (suc n) h =
    let here = h n (omega arith) in
    let rest = total_le f g n (λ i l. h i (omega arith)) in
    omega arith

pub total_add : (f g : ℕ → ℕ) (n : ℕ) → total (λ i. f i + g i) n ≡ total f n + total g n
unfolding total
total_add f g zero = refl
total_add f g (suc n) = let rest = total_add f g n in omega arith

pub total_none : (f : ℕ → ℕ) (n : ℕ) → ((i : ℕ) → i < n → f i ≡ 0) → total f n ≡ 0
unfolding total
total_none f zero h = refl
total_none f (suc n) h =
    let here = h n (omega arith) in
    let rest = total_none f n (λ i l. h i (omega arith)) in
    omega arith

pub last_or_below : (k n : ℕ) → k < suc n → (k ≡ n) ⊎ (k < n)
last_or_below k n l = grind (arith, nat_tests)

less_differs : (k i : ℕ) → i < k → k ≢ i
less_differs k i l e = omega arith

pub total_one : (k n : ℕ) → k < n → total (λ i. one k i) n ≡ 1
unfolding total
total_one k zero l = absurd (omega arith)
total_one k (suc n) l =
    elim (last_or_below k n l) [
      | inl e ↦ (let here : one k n ≡ 1 = ap (λ y. one k y) (sym e) ∙ one_same k in let rest : total (λ i. one k i) n ≡ 0 = total_none (λ i. one k i) n (λ i b. one_other k i (less_differs k i (omega arith))) in omega arith)
      | inr b ↦ (let here : one k n ≡ 0 = one_other k n (λ e. omega arith) in let rest = total_one k n b in omega arith)
    ]

pub total_change : (f g : ℕ → ℕ) (k n : ℕ) → k < n → ((i : ℕ) → i ≢ k → f i ≡ g i) → total g n + f k ≡ total f n + g k
unfolding total
total_change f g k zero l h = absurd (omega arith)
total_change f g k (suc n) l h =
    elim (last_or_below k n l) [
      | inl e ↦ (let a : f k ≡ f n = ap f e in let b : g k ≡ g n = ap g e in let rest = total_same f g n (λ i low. h i (λ s. omega arith)) in omega arith)
      | inr b ↦ (let here = h n (λ s. omega arith) in let rest = total_change f g k n b h in omega arith)
    ]

pub total_swap : (f : ℕ → ℕ → ℕ) (m n : ℕ) → total (λ i. total (λ j. f i j) n) m ≡ total (λ j. total (λ i. f i j) m) n
unfolding total
total_swap f zero n = sym (total_none (λ j. 0) n (λ i l. refl))
total_swap f (suc m) n = ap (λ y. total (λ j. f m j) n + y) (total_swap f m n) ∙ sym (total_add (λ j. f m j) (λ j. total (λ i. f i j) m) n)

pub total_bound : (f : ℕ → ℕ) (k n : ℕ) → ((i : ℕ) → i < n → f i ≤ k) → total f n ≤ n * k
unfolding total
total_bound f k zero h = omega arith
total_bound f k (suc n) h =
    let here = h n (omega arith) in
    let rest = total_bound f k n (λ i l. h i (omega arith)) in
    omega arith

-- one of the terms is 0, and none is above 1
at_most : (f : ℕ → ℕ) (n : ℕ) → ((i : ℕ) → f i ≤ 1) → total f n ≤ n
unfolding total
at_most f zero h = omega arith
at_most f (suc n) h = let here = h n in let rest = at_most f n h in omega arith

total_less : (f : ℕ → ℕ) (k n : ℕ) → k < n → ((i : ℕ) → f i ≤ 1) → f k ≡ 0 → total f n < n
unfolding total
total_less f k zero l h e = absurd (omega arith)
total_less f k (suc n) l h e =
    elim (last_or_below k n l) [
      | inl s ↦ (let a : f n ≡ 0 = ap f (sym s) ∙ e in let rest = at_most f n h in omega arith)
      | inr b ↦ (let here = h n in let rest = total_less f k n b h e in omega arith)
    ]

-- a queue has as many waiters as its harts have places in it
queue_length : (w : Config) (q : List Waiter) → AllAreHarts w q → length q ≡ total (λ h. weigh (is_waiter h) q) (all_harts w)
unfolding weigh
queue_length w [] h = sym (total_none (λ i. 0) (all_harts w) (λ i l. refl))
queue_length w (x ∷ xs) h =
    let here = total_one x.hart (all_harts w) h.0 in
    let rest = queue_length w xs h.1 in
    let both = total_add (λ i. one x.hart i) (λ i. weigh (is_waiter i) xs) (all_harts w) in
    omega arith

-- where hart k has no place, and no hart more than one, fewer wait than there are harts
pub fewer_wait : (w : Config) (queues : ℕ → List Waiter) (locks k : ℕ) → k < all_harts w → ((i : ℕ) → AllAreHarts w (queues i)) → ((h : ℕ) → total (λ i. weigh (is_waiter h) (queues i)) locks ≤ 1)
    → total (λ i. weigh (is_waiter k) (queues i)) locks ≡ 0 → total (λ i. length (queues i)) locks < all_harts w
fewer_wait w queues locks k low harts few none =
    let each = total_same (λ i. length (queues i)) (λ i. total (λ h. weigh (is_waiter h) (queues i)) (all_harts w)) locks (λ i l. queue_length w (queues i) (harts i)) in
    let swapped = total_swap (λ i h. weigh (is_waiter h) (queues i)) locks (all_harts w) in
    let less = total_less (λ h. total (λ i. weigh (is_waiter h) (queues i)) locks) k (all_harts w) low few none in
    omega arith

-- each term is at most the total
pub term_le : (f : ℕ → ℕ) (i n : ℕ) → i < n → f i ≤ total f n
unfolding total
term_le f i zero l = absurd (omega arith)
term_le f i (suc n) l =
    elim (last_or_below i n l) [
      | inl s ↦ (let a : f i ≡ f n = ap f s in omega arith)
      | inr b ↦ (let rest = term_le f i n b in omega arith)
    ]
