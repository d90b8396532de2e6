-- Logs that a machine with write buffers could have left, whatever its caches and messages are.
use Rattle.std.specs.Prelude.{◌≡◌, ◌≢◌, ℕ, ◌<◌, List}
use Rattle.dash_base.specs.declared.id.ClusterId.{ClusterId}
use Rattle.dash_base.specs.declared.id.LineId.{LineId}
use Rattle.dash_base.specs.declared.topology.Topology.{Topology}
use Rattle.dash_msg.specs.declared.msg.Msg.TheVariants.{Unlock}
use Rattle.elf_load.specs.Image.{ImageView}
use Rattle.dash_event.specs.declared.access.Access.{Access}
use Rattle.dash_event.specs.declared.access.Op.TheVariants as op
use Rattle.dash_event.specs.declared.event.Event.{Event}
use Rattle.dash_event.specs.declared.event.Kind.{Kind}
use Rattle.dash_event.specs.declared.event.Kind.TheVariants as kind
use Rattle.dash_event.specs.declared.step_record.StepRecord.{StepRecord}
use Rattle.dash_event.specs.Effects.{hart_of}
use Rattle.dash_model.specs.Log.{IsEventAt, IsAccessEvent, IsRecordEvent}
use Rattle.dash_model.specs.Coherent.{IsCoherent}
use Rattle.dash_model.specs.Release.{StoresAreCommitted, ReleasesAreSeen, AtomicsAreSeen}
use Rattle.dash_model.specs.Replay.{Harts, IsReplay}

-- the commit at a position writes what this access wrote
abbrev pub IsCommitOf : List Event → Kind → Access → Type 0
IsCommitOf log (kind.Commit hart number line version) a = (i : ℕ) × IsEventAt log i (kind.Store a) × (a.hart ≡ hart) × (a.number ≡ number)
IsCommitOf log (kind.Rmw b line version) a = b ≡ a
IsCommitOf log happened a = ⊥

-- before position i stands the last LR of the hart of an access, and it is of the same word; since then this hart did no SC, and no other hart committed a write of the word
pub record IsReservedBefore (log : List Event) (i : ℕ) (a : Access) : Type 0 where
  pub at : ℕ
  pub reserve : Access
  pub level : ℕ
  pub is_at : IsEventAt log at (kind.Load reserve level)
  pub before : at < i
  pub is_reserve : reserve.op ≡ op.Reserve
  pub same_hart : reserve.hart ≡ a.hart
  pub same_word : reserve.word ≡ a.word
  pub last : (j : ℕ) (b : Access) → IsAccessEvent log j b → b.op ≡ op.Reserve → b.hart ≡ a.hart → at < j → ¬ (j < i)
  pub no_cond : (j : ℕ) (b : Access) → IsAccessEvent log j b → b.op ≡ op.Cond → b.hart ≡ a.hart → at < j → ¬ (j < i)
  pub no_commit : (j : ℕ) (happened : Kind) (b : Access) → IsEventAt log j happened → IsCommitOf log happened b → b.word ≡ a.word → b.hart ≢ a.hart
      → at < j → ¬ (j < i)

-- before position i the hart of an access sent the Unlock of it, and has done nothing since
pub record IsSentBefore (log : List Event) (i : ℕ) (a : Access) : Type 0 where
  pub at : ℕ
  pub is_at : IsEventAt log at (kind.LockSend a.hart (Unlock a.hart a.number a.word))
  pub before : at < i
  pub quiet : (j : ℕ) (r : StepRecord) → IsRecordEvent log j r → hart_of r ≡ a.hart → at < j → ¬ (j < i)

-- an admissible log: it replays, is coherent, keeps what of the release rule is seen in it, lets an SC succeed only by its reservation, and frees a lock word only for an Unlock that was sent
pub record IsAdmissible (image : ImageView) (t : Topology) (log : List Event) : Type 0 where
  pub harts : ℕ → Harts
  pub replay : IsReplay image t log harts
  pub coherent : IsCoherent image t log
  pub stores_are_committed : StoresAreCommitted image log
  pub releases_are_seen : ReleasesAreSeen image t log
  pub atomics_are_seen : AtomicsAreSeen t log
  pub conds_are_reserved : (i : ℕ) (a : Access) (line : LineId) (version : ℕ) → IsEventAt log i (kind.Rmw a line version) → a.op ≡ op.Cond → IsReservedBefore log i a
  pub frees_are_sent : (i : ℕ) (from : ClusterId) (a : Access) → IsEventAt log i (kind.Free from a) → IsSentBefore log i a
