-- What the first events of a log show, with one event more, and what all of them show.
use Rattle.std.proofs.Common.{◌≡◌, ℕ, ◌+◌, ◌<◌, ◌≤◌, List, [], ◌∷◌, ◌++◌, length, take, get_or, sym, ◌∙◌, ap}
use Rattle.std.specs.Prelude.{flat_map}
use Rattle.std.proofs.lemmas.List.{take_all, take_more, flat_map_more}

pub one_more : {X A : Type 0} (f : X → List A) (xs : List X) (i : ℕ) (x : X) (old new : List A) → i < length xs → x ≡ get_or xs i x → old ≡ flat_map f (take i xs) → new ≡ old ++ f x
    → new ≡ flat_map f (take (i + 1) xs)
one_more f xs i x old new within item before added =
    added ∙ ap (λ ys. ys ++ f x) before ∙ flat_map_more f [] (take i xs) x ∙ ap (λ y. flat_map f (take i xs ++ y ∷ [])) item ∙ ap (flat_map f) (sym (take_more xs i x within))

pub all_of : {X A : Type 0} (f : X → List A) (xs : List X) (i : ℕ) (shown : List A) → length xs ≤ i → shown ≡ flat_map f (take i xs) → shown ≡ flat_map f xs
all_of f xs i shown reached is = is ∙ ap (flat_map f) (take_all i xs reached)
