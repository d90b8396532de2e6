-- Counts added up, one after another.
use Rattle.std.proofs.Common.{List, [], ap, arith, length, sym, take, ℕ, ◌+◌, ◌++◌, ◌<◌, ◌∙◌, ◌∷◌, ◌≡◌, ◌≤◌}
use Rattle.std.specs.Prelude.{get_or, min, sum}
use Rattle.std.proofs.lemmas.List.{take_all, take_more}
use Rattle.std.proofs.lemmas.List.Sums.{sum_by_push}
use Rattle.workload_runs.specs.Runs.{added_up}

saturated : (a x s : ℕ) → s ≡ a + x → min (min a 4294967295 + x) 4294967295 ≡ min s 4294967295
saturated a x s is = grind arith

pub one_more : (xs : List ℕ) (i x old new : ℕ) → i < length xs → x ≡ get_or xs i x → old ≡ added_up (take i xs) → new ≡ min (old + x) 4294967295 → new ≡ added_up (take (i + 1) xs)
one_more xs i x old new within item before now =
    let more : sum (take (i + 1) xs) ≡ sum (take i xs) + x = ap sum (take_more xs i x within) ∙ ap (λ y. sum (take i xs ++ y ∷ [])) (sym item) ∙ sum_by_push (λ z. z) (take i xs) x in
    now ∙ ap (λ y. min (y + x) 4294967295) before ∙ saturated (sum (take i xs)) x (sum (take (i + 1) xs)) more

pub all_of : (xs : List ℕ) (i total : ℕ) → length xs ≤ i → total ≡ added_up (take i xs) → total ≡ added_up xs
all_of xs i total reached is = is ∙ ap added_up (take_all i xs reached)
