-- What is known of a lane before its next parcel is taken: that parcel is the first, and the rest is still known.
use Rattle.std.proofs.Common.{◌≡◌, List, [], ◌∷◌, ◌++◌, ap, sym, ◌∙◌}
use Rattle.std.proofs.lemmas.List.{append_assoc}
use mathlib.Core.List.{IsPrefix}
use Rattle.dash_msg.specs.declared.parcel.Parcel.{Parcel}

-- the parcel that is taken is the first that was known
pub next_is_first : (q p : Parcel) (old new : List Parcel) → IsPrefix (q ∷ old) (p ∷ new) → p ≡ q
next_is_first q p old new known = let e = known.1 in cc

-- and all others are still known
pub rest_is_known : (q p : Parcel) (old new : List Parcel) → IsPrefix (q ∷ old) (p ∷ new) → IsPrefix old new
rest_is_known q p old new known = (known.0, let e = known.1 in cc)

-- a parcel that was peeked at is the one that is taken next
pub peeked_is_next : (q p : Parcel) (known new : List Parcel) → IsPrefix (q ∷ []) known → IsPrefix known (p ∷ new) → p ≡ q
peeked_is_next q p known new first next =
    let a = first.1 in
    let b : q ∷ (first.0 ++ next.0) ≡ p ∷ new = ap (λ ps. ps ++ next.0) a ∙ next.1 in
    cc

-- what was sent, where the next parcel is taken: one more is received, one fewer is left
pub taken_from : (p : Parcel) (received known new spool sent : List Parcel) → known ≡ p ∷ new → (received ++ known) ++ spool ≡ sent → ((received ++ p ∷ []) ++ new) ++ spool ≡ sent
taken_from p received known new spool sent is met = ap (λ ps. ps ++ spool) (append_assoc received (p ∷ []) new ∙ sym (ap (λ ps. received ++ ps) is)) ∙ met

-- what is known after two looks
pub prefix_then : (xs ys zs : List Parcel) → IsPrefix xs ys → IsPrefix ys zs → IsPrefix xs zs
prefix_then xs ys zs f g = (f.0 ++ g.0, sym (append_assoc xs f.0 g.0) ∙ ap (λ l. l ++ g.0) f.1 ∙ g.1)
