-- What holds of each message on its way, where one is taken and others are sent.
use Rattle.std.proofs.Common.{◌≡◌, ℕ, Bool, true, false, cond, Some, List, [], ◌∷◌, ◌++◌, map, sym, subst, inl, inr}
use Rattle.dash_msg.specs.declared.classes.Class.{Class}
use Rattle.dash_msg.specs.declared.parcel.Sent.{Sent}
use Rattle.dash_model.specs.LineFacts.{IsOnItsWay}
use Rattle.dash_model.specs.Net.{Packet, packet, in_lane, head, tail, send}

-- each message on its way has Q
abbrev pub AllOf : (Packet → Type 0) → List Packet → Type 0
AllOf Q [] = Unit {0}
AllOf Q (p ∷ ps) = Q p × AllOf Q ps

-- each that is sent has Q
abbrev pub AllSent : (Sent → Type 0) → List Sent → Type 0
AllSent Q [] = Unit {0}
AllSent Q (x ∷ xs) = Q x × AllSent Q xs

module _ (Q : Packet → Type 0) where
  head_cases : (a b : ℕ) (k : Class) (q p : Packet) (ps : List Packet) (i : Bool) → cond i (Some p) (head a b k ps) ≡ Some q → Q p → (head a b k ps ≡ Some q → Q q) → Q q
  head_cases a b k q p ps true e h ih = let r : p ≡ q = cc in subst Q r h
  head_cases a b k q p ps false e h ih = ih e

  pub all-head : (a b : ℕ) (k : Class) (q : Packet) (net : List Packet) → AllOf Q net → head a b k net ≡ Some q → Q q
  unfolding head
  all-head a b k q [] h e = absurd (cc)
  all-head a b k q (p ∷ ps) h e = head_cases a b k q p ps (in_lane a b k p) e h.0 (all-head a b k q ps h.1)

  tail_cases : (p : Packet) (ps ts : List Packet) (i : Bool) → AllOf Q (p ∷ ps) → AllOf Q ts → AllOf Q (cond i ps (p ∷ ts))
  tail_cases p ps ts true h t = h.1
  tail_cases p ps ts false h t = (h.0, t)

  pub all-tail : (a b : ℕ) (k : Class) (net : List Packet) → AllOf Q net → AllOf Q (tail a b k net)
  unfolding tail
  all-tail a b k [] h = tt
  all-tail a b k (p ∷ ps) h = tail_cases p ps (tail a b k ps) (in_lane a b k p) h (all-tail a b k ps h.1)

  all-append : (xs ys : List Packet) → AllOf Q xs → AllOf Q ys → AllOf Q (xs ++ ys)
  all-append [] ys h k = k
  all-append (x ∷ xs) ys h k = (h.0, all-append xs ys h.1 k)

  all-sent : (t a : ℕ) (xs : List Sent) → AllSent (λ x. Q (packet t a x)) xs → AllOf Q (map (packet t a) xs)
  all-sent t a [] h = tt
  all-sent t a (x ∷ xs) h = (h.0, all-sent t a xs h.1)

  pub all-send : (t a : ℕ) (net : List Packet) (xs : List Sent) → AllOf Q net → AllSent (λ x. Q (packet t a x)) xs → AllOf Q (send net t a xs)
  unfolding send
  all-send t a net xs h k = all-append net (map (packet t a) xs) h (all-sent t a xs k)

  pub all-member : (q : Packet) (net : List Packet) → IsOnItsWay q net → AllOf Q net → Q q
  all-member q [] i h = absurd i
  all-member q (p ∷ ps) (inl e) h = subst Q (sym e) h.0
  all-member q (p ∷ ps) (inr i) h = all-member q ps i h.1
