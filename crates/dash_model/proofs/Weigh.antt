-- What a message that is taken leaves, and what messages that are sent add, for every weight.
use Rattle.std.proofs.Common.{◌≡◌, ℕ, ◌+◌, Bool, true, false, cond, Some, List, [], ◌∷◌, ◌++◌, refl, ap, arith}
use Rattle.dash_msg.specs.declared.classes.Class.{Class}
use Rattle.dash_msg.specs.declared.parcel.Sent.{Sent}
use Rattle.dash_model.specs.Maps.{weigh}
use Rattle.dash_model.specs.Net.{Packet, packet, in_lane, head, tail, send}

pub weigh-append : (w : Packet → ℕ) (xs ys : List Packet) → weigh w (xs ++ ys) ≡ weigh w xs + weigh w ys
unfolding weigh
weigh-append w [] ys = omega arith
weigh-append w (x ∷ xs) ys = let ih = weigh-append w xs ys in omega arith

cut_cases : (a b : ℕ) (k : Class) (q p : Packet) (ps : List Packet) (w : Packet → ℕ) (i : Bool) → cond i (Some p) (head a b k ps) ≡ Some q
    → (head a b k ps ≡ Some q → weigh w (tail a b k ps) + w q ≡ weigh w ps) → weigh w (cond i ps (p ∷ tail a b k ps)) + w q ≡ w p + weigh w ps
unfolding weigh
cut_cases a b k q p ps w true e ih = let r : p ≡ q = cc in let s : w p ≡ w q = ap w r in omega arith
cut_cases a b k q p ps w false e ih = let r = ih e in omega arith

pub cut : (a b : ℕ) (k : Class) (q : Packet) (net : List Packet) → head a b k net ≡ Some q → (w : Packet → ℕ)
    → weigh w (tail a b k net) + w q ≡ weigh w net
unfolding weigh head tail
cut a b k q [] e w = absurd (cc)
cut a b k q (p ∷ ps) e w = cut_cases a b k q p ps w (in_lane a b k p) e (λ h. cut a b k q ps h w)

pub send-none : (w : Packet → ℕ) (net : List Packet) (t a : ℕ) → weigh w (send net t a []) ≡ weigh w net
unfolding send weigh
send-none w net t a = let e = weigh-append w net [] in omega arith

pub send-one : (w : Packet → ℕ) (net : List Packet) (t a : ℕ) (m : Sent) → weigh w (send net t a (m ∷ [])) ≡ weigh w net + w (packet t a m)
unfolding send weigh
send-one w net t a m = let e = weigh-append w net (packet t a m ∷ []) in omega arith

pub send-two : (w : Packet → ℕ) (net : List Packet) (t a : ℕ) (m n : Sent)
    → weigh w (send net t a (m ∷ n ∷ [])) ≡ weigh w net + w (packet t a m) + w (packet t a n)
unfolding send weigh
send-two w net t a m n = let e = weigh-append w net (packet t a m ∷ packet t a n ∷ []) in omega arith

pub ruleset sends = (send-none, send-one, send-two)

-- where one weight is nowhere, so is another that is nowhere else
pub weigh-only : (v w : Packet → ℕ) → ((p : Packet) → v p ≡ 0 → w p ≡ 0) → (net : List Packet) → weigh v net ≡ 0 → weigh w net ≡ 0
unfolding weigh
weigh-only v w f [] e = refl
weigh-only v w f (p ∷ ps) e =
    let here : v p ≡ 0 = omega arith in
    let there : weigh v ps ≡ 0 = omega arith in
    let a = f p here in
    let b = weigh-only v w f ps there in
    omega arith
