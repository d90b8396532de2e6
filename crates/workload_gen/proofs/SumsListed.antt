-- The totals, by the sums of the harts' additions.
use Rattle.std.proofs.Common.{List, [], ap, arith, refl, subst, suc, sym, zero, ℕ, ◌*◌, ◌+◌, ◌<◌, ◌^◌, ◌∙◌, ◌∷◌, ◌≡◌, ◌≢◌, ◌≤◌, ◌⊎◌, inl, inr, length, slice_index}
use Rattle.std.proofs.lemmas.Grind.{same_number_lists}
use Rattle.std.proofs.lemmas.List.{get_or_append_left, get_or_push, length-append}
use Rattle.workload_gen.specs.Summary.{listed, totals}
use Rattle.workload_gen.specs.Workload.{added, counters, sum_below, total, turns}
use Rattle.workload_gen.proofs.Changed.{equal_or_not, sum_bound}
use Rattle.workload_gen.proofs.Sums.{added_small}

pub turns_is : turns ≡ 468
unfolding turns
turns_is = refl

pub listed_len : (f : ℕ → ℕ) (n : ℕ) → length (listed f n) ≡ n
listed_len f zero = refl
listed_len f (suc n) = let rest = listed_len f n in let more = length-append (listed f n) (f n ∷ []) in omega arith

pub listed_at : (f : ℕ → ℕ) (n k : ℕ) → k < n → slice_index (listed f n) k ≡ f k
listed_at f zero k low = absurd (omega arith)
listed_at f (suc n) k low = by_place (listed_at f n k) (equal_or_not k n)
  where
    by_place : (k < n → slice_index (listed f n) k ≡ f k) → (k ≡ n) ⊎ (k ≢ n) → slice_index (listed f (suc n)) k ≡ f k
    by_place shorter (inl last) = get_or_push (listed f n) (f n) 0 k (listed_len f n ∙ sym last) ∙ ap f (sym last)
    by_place shorter (inr other) =
        let len = listed_len f n in
        get_or_append_left (listed f n) (f n ∷ []) 0 k (omega arith) ∙ shorter (omega arith)

pub one_more : (seed k h : ℕ) (old new : ℕ) → old ≡ sum_below (λ g. added seed k g turns) h → new ≡ old + added seed k h turns
    → new ≡ sum_below (λ g. added seed k g turns) (h + 1)
one_more seed k h old new so then =
    let next : suc h ≡ h + 1 = omega arith in
    subst (λ n. new ≡ sum_below (λ g. added seed k g turns) n) next (then ∙ ap (λ n. n + added seed k h turns) so)

pub totals_are : (seed n : ℕ) (xs : List ℕ) → n ≡ 64 → length xs ≡ counters
    → ((k : ℕ) → k < counters → slice_index xs k ≡ sum_below (λ h. added seed k h turns) n) → xs ≡ totals seed
unfolding total totals
totals_are seed n xs all len each =
    same_number_lists xs (totals seed) (len ∙ sym (listed_len (total seed) counters))
    (λ k low. let below : k < counters = subst (λ z. k < z) len low in
    each k below ∙ ap (sum_below (λ h. added seed k h turns)) all ∙ sym (listed_at (total seed) counters k below))

-- each total is far below the end of a word
pub total_small : (seed k : ℕ) → total seed k < 2 ^ 32
unfolding total
total_small seed k =
    let each : (h : ℕ) → h < 64 → added seed k h turns ≤ 119340 = λ h low. (let a = added_small seed k h turns in let t = turns_is in omega arith) in
    let all : total seed k ≤ 64 * 119340 = sum_bound (λ h. added seed k h turns) 119340 64 each in
    omega arith
