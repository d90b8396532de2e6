-- Positions of a log to which an event was added: those before it, and its own.
use Rattle.std.proofs.Common.{◌≡◌, ℕ, zero, suc, ◌+◌, ◌<◌, Some, List, [], ◌∷◌, ◌++◌, length, slice_get, refl, sym, ap, ◌∙◌, arith}
use Rattle.std.specs.Prelude.{option_map}
use Rattle.dash_event.specs.declared.event.Event.{Event}
use Rattle.dash_event.specs.declared.event.Kind.{Kind}
use Rattle.dash_model.specs.Log.{IsEventAt}

pub at_last : (log : List Event) (e : Event) → slice_get (log ++ e ∷ []) (length log) ≡ Some e
at_last [] e = refl
at_last (x ∷ xs) e = at_last xs e

pub at_first : (log : List Event) (e f : Event) (i : ℕ) → slice_get log i ≡ Some f → slice_get (log ++ e ∷ []) i ≡ Some f
at_first [] e f i is = absurd (cc)
at_first (x ∷ xs) e f zero is = is
at_first (x ∷ xs) e f (suc i) is = at_first xs e f i is

-- an event of the longer log is one of the log, or the last
pub data Placed (log : List Event) (e : Event) (i : ℕ) (f : Event) : Type 0 where
  Before : slice_get log i ≡ Some f → i < length log → Placed log e i f
  Last : i ≡ length log → f ≡ e → Placed log e i f

pub placed : (log : List Event) (e f : Event) (i : ℕ) → slice_get (log ++ e ∷ []) i ≡ Some f → Placed log e i f
placed [] e f zero is = Last refl (cc)
placed [] e f (suc i) is = absurd (cc)
placed (x ∷ xs) e f zero is = Before is (omega arith)
placed (x ∷ xs) e f (suc i) is = elim (placed xs e f i is) [ Before at low ↦ Before at (omega arith) | Last at same ↦ Last (ap suc at) same ]

-- what stands in front of other events
pub at_front : (xs ys : List Event) (i : ℕ) → i < length xs → slice_get (xs ++ ys) i ≡ slice_get xs i
at_front [] ys i low = absurd (omega arith)
at_front (x ∷ xs) ys zero low = refl
at_front (x ∷ xs) ys (suc i) low = at_front xs ys i (omega arith)

pub event_front : (xs ys : List Event) (i : ℕ) (k : Kind) → i < length xs → IsEventAt xs i k → IsEventAt (xs ++ ys) i k
event_front xs ys i k low at = ap (option_map (λ (e : Event). e.kind)) (at_front xs ys i low) ∙ at

pub event_of_front : (xs ys : List Event) (i : ℕ) (k : Kind) → i < length xs → IsEventAt (xs ++ ys) i k → IsEventAt xs i k
event_of_front xs ys i k low at = ap (option_map (λ (e : Event). e.kind)) (sym (at_front xs ys i low)) ∙ at

-- an event of this kind in the longer log is one of the log, or the last
pub data EventPlaced (log : List Event) (e : Event) (i : ℕ) (k : Kind) : Type 0 where
  InFront : i < length log → IsEventAt log i k → EventPlaced log e i k
  AtEnd : i ≡ length log → e.kind ≡ k → EventPlaced log e i k

pub event_placed : (log : List Event) (e : Event) (i : ℕ) (k : Kind) → IsEventAt (log ++ e ∷ []) i k → EventPlaced log e i k
event_placed [] e zero k at = AtEnd refl (cc)
event_placed [] e (suc i) k at = absurd (cc)
event_placed (x ∷ xs) e zero k at = InFront (omega arith) at
event_placed (x ∷ xs) e (suc i) k at = elim (event_placed xs e i k at) [ InFront low there ↦ InFront (omega arith) there | AtEnd last is ↦ AtEnd (ap suc last) is ]

pub event_at_last : (log : List Event) (e : Event) → IsEventAt (log ++ e ∷ []) (length log) e.kind
event_at_last log e = ap (option_map (λ (x : Event). x.kind)) (at_last log e)

pub length_more : (log : List Event) (e : Event) → length (log ++ e ∷ []) ≡ length log + 1
length_more [] e = refl
length_more (x ∷ xs) e = let rest = length_more xs e in omega arith

-- nothing stands after it
pub none_after : (log : List Event) (e : Event) (j : ℕ) (k : Kind) → length log < j → EventPlaced log e j k → ⊥
none_after log e j k l (InFront low at) = omega arith
none_after log e j k l (AtEnd last is) = omega arith
