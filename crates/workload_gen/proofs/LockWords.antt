-- A lock word is what its last access wrote: 1 where that is an Ask, and a hart holds it wherever it is not 0.
use Rattle.std.proofs.Common.{List, Some, ap, inl, inr, length, subst, sym, ℕ, ◌<◌, ◌∙◌, ◌≡◌, ◌≢◌, ◌⊎◌}
use Rattle.dash_event.specs.declared.access.Access.{Access}
use Rattle.dash_event.specs.declared.access.Op.TheVariants as op
use Rattle.dash_event.specs.declared.step_record.StepRecord.{StepRecord}
use Rattle.flat_model.proofs.LawsOffered.{locks_at_end}
use Rattle.flat_model.specs.LastBefore.{IsLockBefore}
use Rattle.flat_model.specs.Order.{IsAccessAt}
use Rattle.workload_gen.specs.Guarded.{Asks, Counter, IsGuarded, Unlocks}
use Rattle.workload_gen.specs.LockWords.{IsHeldAtEnd, LocksAreHeld}
use Rattle.workload_gen.specs.Program.{image_of}
use Rattle.workload_gen.specs.Workload.{lock_word}
use Rattle.workload_gen.proofs.Changed.{equal_or_not}
use Rattle.workload_gen.proofs.Invariant.{Holds}
use Rattle.workload_gen.proofs.Labelled.{one_access, three}
use Rattle.workload_gen.proofs.Runs.{holds}

-- an Ask writes 1
ask_writes : (rs : List StepRecord) (j : ℕ) (a : Access) → a.op ≡ op.Ask → IsGuarded rs j a → a.written ≡ Some 1
ask_writes rs j a asks (Counter k low word (inl kind) labels held) = absurd (let no : op.Load ≡ op.Ask = sym kind ∙ asks in cc)
ask_writes rs j a asks (Counter k low word (inr kind) labels held) = absurd (let no : op.Store ≡ op.Ask = sym kind ∙ asks in cc)
ask_writes rs j a asks (Asks k low word kind labels read written) = written
ask_writes rs j a asks (Unlocks k low word kind labels written held) = absurd (let no : op.Unlock ≡ op.Ask = sym kind ∙ asks in cc)

module _ (rs : List StepRecord) (k value : ℕ) (all : (j : ℕ) (a : Access) → IsAccessAt rs j a → IsGuarded rs j a) where
  -- the last access of the word is the Ask of its holder
  is_one : IsHeldAtEnd rs k → IsLockBefore rs (length rs) (lock_word k) (Some value) → value ≡ 1
  is_one h (inr none) = absurd (none.0.none h.held.last.at h.held.last.access h.held.last.is_at h.held.last.has h.held.last.before)
  is_one h (inl last) = by_order (three last.0.at h.held.last.at)
    where
      by_order : (last.0.at < h.held.last.at) ⊎ ((last.0.at ≡ h.held.last.at) ⊎ (h.held.last.at < last.0.at)) → value ≡ 1
      by_order (inl before) = absurd (last.0.last h.held.last.at h.held.last.access h.held.last.is_at h.held.last.has before h.held.last.before)
      by_order (inr (inr after)) = absurd (h.held.last.last last.0.at last.0.access last.0.is_at last.0.has after last.0.before)
      by_order (inr (inl same)) =
          let is : last.0.access ≡ h.held.last.access = one_access rs h.held.last.at last.0.access h.held.last.access (subst (λ z. IsAccessAt rs z last.0.access) same last.0.is_at) h.held.last.is_at in
          let one : Some value ≡ Some 1 = last.1 ∙ ap (λ a. a.written) is ∙ ask_writes rs h.held.last.at h.held.last.access h.held.asks (all h.held.last.at h.held.last.access h.held.last.is_at) in
          cc

pub locks_are_held : LocksAreHeld
locks_are_held seed t rs s small machine run k low =
    let i = holds seed small t machine rs s run in
    record {
      held = λ h. is_one rs k (s.locks (lock_word k)) i.guards.all h (locks_at_end (image_of seed) t rs s run (lock_word k));
      free = λ none. by_value i none (equal_or_not (s.locks (lock_word k)) 0);
    }
  where
    by_value : Holds seed rs s → (IsHeldAtEnd rs k → ⊥) → (s.locks (lock_word k) ≡ 0) ⊎ (s.locks (lock_word k) ≢ 0) → s.locks (lock_word k) ≡ 0
    by_value i none (inl zero_word) = zero_word
    by_value i none (inr some) =
        let taken = i.locks.taken k low some in
        absurd (none (record { hart = record { 0 = taken.hart }; held = i.guards.inside taken.hart k taken.in_range taken.inside }))
