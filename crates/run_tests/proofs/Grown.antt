-- Logs of two clusters, of which the second has one event more.
use Rattle.std.proofs.Common.{◌≡◌, ℕ, zero, suc, ◌<◌, List, [], ◌∷◌, ◌++◌, refl, sym, ◌∙◌, ap, subst}
use Rattle.std.specs.List.{AllByRecursion as Each}
use Rattle.std.proofs.lemmas.List.{append-nil}
use Rattle.dash_event.specs.declared.event.Event.{Event}
use Rattle.trace_merge.specs.MergedLogs.{log_of}
use Rattle.trace_merge.specs.Settled.{last_stamp, HaveGrown}

pub grown : (near later far longer : List Event) (e : Event) → near ≡ later → far ++ e ∷ [] ≡ longer → last_stamp far < e.stamp → HaveGrown (near ∷ far ∷ []) (later ∷ longer ∷ [])
grown near later far longer e same more less = record { count = refl; added = added; appended = appended; after = after } where
  added : ℕ → List Event
  added zero = []
  added (suc zero) = e ∷ []
  added (suc (suc c)) = []

  appended : (c : ℕ) → log_of (near ∷ far ∷ []) c ++ added c ≡ log_of (later ∷ longer ∷ []) c
  appended zero = append-nil near ∙ same
  appended (suc zero) = more
  appended (suc (suc c)) = refl

  after : (c : ℕ) → Each (λ x. last_stamp (log_of (near ∷ far ∷ []) c) < x.stamp) (added c)
  after zero = tt
  after (suc zero) = (less, tt)
  after (suc (suc c)) = tt
