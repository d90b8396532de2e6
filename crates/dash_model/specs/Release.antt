-- The release rule: a release waits until the hart's earlier stores are committed and acknowledged, so that all see them.
use Rattle.std.specs.Prelude.{◌≡◌, ℕ, ◌<◌, ◌≤◌, true, List, take}
use Rattle.dash_base.specs.declared.id.HartId.{HartId}
use Rattle.dash_base.specs.declared.id.LineId.{LineId}
use Rattle.dash_base.specs.declared.instr.Fence.{Fence}
use Rattle.dash_base.specs.declared.instr.Instr.TheVariants as instr
use Rattle.dash_base.specs.declared.topology.Topology.{Topology}
use Rattle.dash_msg.specs.declared.msg.Msg.TheVariants.{Unlock}
use Rattle.elf_load.specs.Image.{ImageView}
use Rattle.hart_core.specs.Meaning.{IsFound, fence_waits}
use Rattle.hart_core.specs.declared.found.Found.TheVariants.{This}
use Rattle.dash_base.specs.Places.{line_of}
use Rattle.dash_event.specs.declared.access.Access.{Access}
use Rattle.dash_event.specs.declared.event.Event.{Event}
use Rattle.dash_event.specs.declared.event.Kind.{Kind}
use Rattle.dash_event.specs.declared.event.Kind.TheVariants as kind
use Rattle.dash_model.specs.Log.{IsEventAt, IsShown, IsCommitEvent}
use Rattle.dash_model.specs.Coherent.{IsCommittedBefore}
use Rattle.dash_model.specs.Owed.{IsOwed}

-- a fence that waits stands at an address
pub record IsWaitingFence (image : ImageView) (pc : ℕ) : Type 0 where
  pub fence : Fence
  pub found : IsFound image pc (This (instr.Fence fence))
  pub waits : fence_waits fence ≡ true

-- what happened is a release of a hart: an atomic operation with the release bit, a fence that waits, or the sending of an Unlock
abbrev pub Releases : ImageView → Kind → HartId → Type 0
Releases image (kind.Rmw a line version) hart = (a.hart ≡ hart) × (a.labels.rl ≡ true)
Releases image (kind.Fence g pc) hart = (g ≡ hart) × IsWaitingFence image pc
Releases image (kind.LockSend g (Unlock h number word)) hart = g ≡ hart
Releases image happened hart = ⊥

-- the event at a position is one
pub record IsReleaseEvent (image : ImageView) (log : List Event) (i : ℕ) (hart : HartId) : Type 0 where
  pub kind : Kind
  pub at : IsEventAt log i kind
  pub is : Releases image kind hart

-- each store of the hart before a release is committed before it
abbrev pub StoresAreCommitted : ImageView → List Event → Type 0
StoresAreCommitted image log =
    (i : ℕ) (hart : HartId) (j : ℕ) (b : Access) → IsReleaseEvent image log i hart → IsEventAt log j (kind.Store b) → b.hart ≡ hart → j < i
    → IsCommittedBefore log b i

-- no acknowledgement is owed to the hart at a release
abbrev pub NothingIsOwed : ImageView → Topology → List Event → Type 0
NothingIsOwed image t log =
    (i : ℕ) (hart : HartId) (line : LineId) → IsReleaseEvent image log i hart → ¬ IsOwed t (take i log) hart line

-- what the hart committed before a release, each later event sees that is shown a version of the line
abbrev pub ReleasesAreSeen : ImageView → Topology → List Event → Type 0
ReleasesAreSeen image t log =
    (p : ℕ) (hart : HartId) (i : ℕ) (line : LineId) (u j : ℕ) (a : Access) (v : ℕ) → IsReleaseEvent image log p hart
    → IsCommitEvent log i hart line u → i < p → IsShown log j a v → p < j → line_of t a.word ≡ line → u ≤ v

-- what an atomic operation committed, each later event sees that is shown a version of the line
abbrev pub AtomicsAreSeen : Topology → List Event → Type 0
AtomicsAreSeen t log =
    (i : ℕ) (a : Access) (line : LineId) (u j : ℕ) (b : Access) (v : ℕ) → IsEventAt log i (kind.Rmw a line u) → IsShown log j b v → i < j
    → line_of t b.word ≡ line → u ≤ v

-- a log that keeps the release rule
pub record KeepsReleases (image : ImageView) (t : Topology) (log : List Event) : Type 0 where
  pub stores_are_committed : StoresAreCommitted image log
  pub nothing_is_owed : NothingIsOwed image t log
  pub releases_are_seen : ReleasesAreSeen image t log
  pub atomics_are_seen : AtomicsAreSeen t log
