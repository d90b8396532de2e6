-- The events by which a hart gets on: those that retire an instruction, and a commit.
use Rattle.std.specs.Prelude.{◌≡◌, ℕ, ◌<◌, ◌≤◌, Bool, true, false, IsTrue, IsFalse, List, length, slice_index, slice_index_or}
use Rattle.dash_base.specs.declared.end.End.{End}
use Rattle.dash_base.specs.declared.end.End.TheVariants.{Exited}
use Rattle.dash_event.specs.declared.event.Event.{Event}
use Rattle.dash_event.specs.declared.event.Kind.{Kind}
use Rattle.dash_event.specs.declared.event.Kind.TheVariants.{Alu, Fence, Hint, Put, Stop, Load, Store, Commit, Rmw, ScFail, Take}
use Rattle.dash_msg.specs.declared.msg.Msg.{Msg}
use Rattle.dash_msg.specs.declared.msg.Msg.TheVariants.{LockGrant, UnlockAck}
use Rattle.round_run.specs.Units.{UnitView}

-- an exit retires, a trap does not
abbrev pub is_exit : End → Bool
is_exit (Exited code) = true
is_exit end = false

-- the answers to a lock instruction retire it
abbrev pub answers_lock : Msg → Bool
answers_lock (LockGrant h) = true
answers_lock (UnlockAck h old) = true
answers_lock msg = false

abbrev pub is_progress : Kind → Bool
is_progress (Alu h pc) = true
is_progress (Fence h pc) = true
is_progress (Hint h pc slot) = true
is_progress (Put h pc byte) = true
is_progress (Stop h pc end) = is_exit end
is_progress (Load a level) = true
is_progress (Store a) = true
is_progress (Commit h n l v) = true
is_progress (Rmw a l v) = true
is_progress (ScFail a) = true
is_progress (Take f m) = answers_lock m
is_progress kind = false

-- such an event stands in a log, from a place on
pub record HasProgress (from : ℕ) (log : List Event) : Type 0 where
  pub place : ℕ
  pub past : from ≤ place
  pub inside : place < length log
  pub gets_on : (e : Event) → IsTrue (is_progress (slice_index_or log place e).kind)

-- none does
abbrev pub NoProgress : ℕ → List Event → Type 0
NoProgress from log = (i : ℕ) (e : Event) → from ≤ i → i < length log → IsFalse (is_progress (slice_index_or log i e).kind)

-- marks are kept of the first 16 units, which are all that a machine can have
module _ {U : Type 0} (view : U → UnitView) where
  -- each mark is where the log of its unit ends
  abbrev pub AreEnds : List U → List ℕ → Type 0
  AreEnds us marks = (c : ℕ) (d : U) → c < length us → c < 16 → slice_index marks c ≡ length (view (slice_index_or us c d)).core.log

  -- in the log of some unit such an event stands from its mark on
  pub record ArePassed (marks : List ℕ) (us : List U) : Type 0 where
    pub cluster : ℕ
    pub low : cluster < length us
    pub few : cluster < 16
    pub has : (d : U) → HasProgress (slice_index marks cluster) (view (slice_index_or us cluster d)).core.log

  -- in that of none
  abbrev pub AreNotPassed : List ℕ → List U → Type 0
  AreNotPassed marks us = (c : ℕ) (d : U) → c < length us → c < 16 → NoProgress (slice_index marks c) (view (slice_index_or us c d)).core.log
