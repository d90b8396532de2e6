-- What each access of the workload is, and who holds the lock word of a counter that is used.
use Rattle.std.specs.Prelude.{◌≡◌, ◌⊎◌, ◌<◌, ◌^◌, ℕ, List, Some}
use Rattle.dash_base.specs.declared.id.HartId.{HartId}
use Rattle.dash_base.specs.declared.topology.Topology.{Topology}
use Rattle.dash_event.specs.Offered.{acquire_label, no_label, release_label}
use Rattle.dash_event.specs.declared.access.Access.{Access}
use Rattle.dash_event.specs.declared.access.Op.TheVariants as op
use Rattle.dash_event.specs.declared.step_record.StepRecord.{StepRecord}
use Rattle.flat_model.specs.LastBefore.{IsLockAccess, LastBefore}
use Rattle.flat_model.specs.Order.{IsAccessAt}
use Rattle.flat_model.specs.Run.{IsSequentialRun}
use Rattle.workload_gen.specs.Program.{image_of}
use Rattle.workload_gen.specs.Workload.{IsMachine, counter_word, lock_word}

-- before a position a hart holds counter k's lock word: the last access of it there is an Ask of this hart
pub record IsHeldBefore (rs : List StepRecord) (j : ℕ) (hart : HartId) (k : ℕ) : Type 0 where
  pub last : LastBefore rs j (IsLockAccess (lock_word k))
  pub asks : last.access.op ≡ op.Ask
  pub of_hart : last.access.hart ≡ hart

-- the access at a position loads or stores a counter whose lock word its hart holds, asks for the lock word of a counter, from 0 to 1, or frees one that its hart holds, to 0
pub data IsGuarded (rs : List StepRecord) (j : ℕ) (a : Access) : Type 0 where
  Counter : (k : ℕ) → k < 64 → a.word.0 ≡ counter_word k → (a.op ≡ op.Load) ⊎ (a.op ≡ op.Store) → a.labels ≡ no_label → IsHeldBefore rs j a.hart k → IsGuarded rs j a
  Asks : (k : ℕ) → k < 64 → a.word.0 ≡ lock_word k → a.op ≡ op.Ask → a.labels ≡ acquire_label → a.read ≡ Some 0 → a.written ≡ Some 1 → IsGuarded rs j a
  Unlocks : (k : ℕ) → k < 64 → a.word.0 ≡ lock_word k → a.op ≡ op.Unlock → a.labels ≡ release_label → a.written ≡ Some 0 → IsHeldBefore rs j a.hart k → IsGuarded rs j a

-- each access of each sequential run of the workload is so
abbrev pub CountersAreGuarded : Type 0
CountersAreGuarded = (seed : ℕ) (t : Topology) (rs : List StepRecord) → seed < 2 ^ 32 → IsMachine t → IsSequentialRun (image_of seed) t rs
    → (j : ℕ) (a : Access) → IsAccessAt rs j a → IsGuarded rs j a
