-- The events before a position of a run, and those before the last of a log, keep their positions.
use Rattle.std.proofs.Common.{◌≡◌, ℕ, zero, suc, ◌<◌, List, [], ◌∷◌, ◌++◌, length, map, refl, sym, ap, subst, arith}
use Rattle.dash_event.specs.declared.event.Event.{Event}
use Rattle.dash_event.specs.declared.event.Kind.{Kind}
use Rattle.dash_model.specs.Config.{Config}
use Rattle.dash_model.specs.Guard.{Guard}
use Rattle.dash_model.specs.Machine.{event_of}
use Rattle.dash_model.specs.Log.{IsEventAt}
use Rattle.dash_model.proofs.Happened.{Happened}

-- an event stays where it is in a longer log
pub event_kept : (xs ys : List Event) (i : ℕ) (k : Kind) → IsEventAt xs i k → IsEventAt (xs ++ ys) i k
event_kept [] ys i k at = absurd (cc)
event_kept (x ∷ xs) ys zero k at = at
event_kept (x ∷ xs) ys (suc i) k at = event_kept xs ys i k at

pub event_within : (xs : List Event) (i : ℕ) (k : Kind) → IsEventAt xs i k → i < length xs
event_within [] i k at = absurd (cc)
event_within (x ∷ xs) zero k at = omega arith
event_within (x ∷ xs) (suc i) k at = let low = event_within xs i k at in omega arith

-- an event of a longer log whose position is in the beginning is one of the beginning
pub event_first : (xs ys : List Event) (i : ℕ) (k : Kind) → i < length xs → IsEventAt (xs ++ ys) i k → IsEventAt xs i k
event_first [] ys i k low at = absurd (omega arith)
event_first (x ∷ xs) ys zero k low at = at
event_first (x ∷ xs) ys (suc i) k low at = event_first xs ys i k (omega arith) at

pub event_last : (log : List Event) (e : Event) → IsEventAt (log ++ e ∷ []) (length log) e.kind
event_last [] e = refl
event_last (x ∷ xs) e = event_last xs e

-- an event of a log with one more is one of the log, or the last
pub data Stands (log : List Event) (e : Event) (i : ℕ) (k : Kind) : Type 0 where
  Earlier : IsEventAt log i k → i < length log → Stands log e i k
  Latest : i ≡ length log → e.kind ≡ k → Stands log e i k

pub stands : (log : List Event) (e : Event) (i : ℕ) (k : Kind) → IsEventAt (log ++ e ∷ []) i k → Stands log e i k
stands [] e zero k at = Latest refl (cc)
stands [] e (suc i) k at = absurd (cc)
stands (x ∷ xs) e zero k at = Earlier at (omega arith)
stands (x ∷ xs) e (suc i) k at = elim (stands xs e i k at) [ Earlier there low ↦ Earlier there (omega arith) | Latest place is ↦ Latest (ap suc place) is ]

-- what happened at a position of a run, and the events before it
module _ (w : Config) (log : List Event) (i : ℕ) (e : Kind) (a : Happened w log i e) where
  pub into_before : (j : ℕ) (k : Kind) → IsEventAt log j k → j < i → IsEventAt a.before j k
  into_before j k at low =
      let place = a.place in
      event_first a.before (a.step.event ∷ map event_of a.follow) j k (omega arith) (subst (λ es. IsEventAt es j k) a.whole at)

  pub from_before : (j : ℕ) (k : Kind) → IsEventAt a.before j k → IsEventAt log j k × (j < i)
  from_before j k at =
      let low = event_within a.before j k at in
      let place = a.place in
      (subst (λ es. IsEventAt es j k) (sym a.whole) (event_kept a.before (a.step.event ∷ map event_of a.follow) j k at), omega arith)

  pub guard_of : Guard w a.step.event.cluster.0 e a.step.done (a.state.parts a.step.event.cluster.0)
  guard_of = subst (λ k. Guard w a.step.event.cluster.0 k a.step.done (a.state.parts a.step.event.cluster.0)) a.is a.can.steps.guard
