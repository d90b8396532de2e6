-- Where a run stands at its end: harts as the log replays them, lock words as the log's uses leave them, and waiters at their Asks.
use Rattle.std.specs.Prelude.{◌≡◌, ◌<◌, ℕ, true, List, [], length, Some}
use Rattle.dash_base.specs.declared.id.WordAddr.{WordAddr}
use Rattle.dash_base.specs.declared.need.Need.TheVariants.{Ask}
use Rattle.dash_event.specs.declared.access.Access.{Access}
use Rattle.dash_event.specs.declared.event.Event.{Event}
use Rattle.dash_event.specs.declared.event.Kind.TheVariants.{Store}
use Rattle.hart_core.specs.HartState.{HartState}
use Rattle.hart_core.specs.Meaning.{Needs}
use Rattle.dash_model.specs.Coherent.{IsCommittedBefore, IsLockEvent}
use Rattle.dash_model.specs.Complete.{IsQueued, hart_at}
use Rattle.dash_model.specs.Config.{Config, is_lock, lock_at, lock_home}
use Rattle.dash_model.specs.LockFacts.{queue_of}
use Rattle.dash_model.specs.Log.{IsEventAt}
use Rattle.dash_model.specs.Machine.{Machine, Reaches}
use Rattle.dash_model.specs.Replay.{Harts, IsReplay}

-- where nothing is on its way, each hart stands as every replay of the log leaves it
abbrev pub SettledRunsAreReplayed : Type 0
SettledRunsAreReplayed = (w : Config) (log : List Event) (m : Machine) (harts : ℕ → Harts) → Reaches w log m → m.net ≡ [] → IsReplay w.image w.top log harts
    → (h : ℕ) → harts (length log) h ≡ (hart_at w h m).core

-- a hart whose write buffer is empty has committed each of its stores
abbrev pub DrainedHartsHaveCommitted : Type 0
DrainedHartsHaveCommitted = (w : Config) (log : List Event) (m : Machine) (h j : ℕ) (b : Access) → Reaches w log m → (hart_at w h m).buffer ≡ []
    → IsEventAt log j (Store b) → b.hart.0 ≡ h → IsCommittedBefore log b (length log)

-- the value of a lock word, at its home
abbrev pub value_of : Config → Machine → WordAddr → ℕ
value_of w m word = ((m.parts (lock_home w (lock_at w word.0))).locks (lock_at w word.0)).value

-- a value is what the last use of a lock word in a log wrote, or 0 where the log has none
pub data LastUse (log : List Event) (word : WordAddr) (value : ℕ) : Type 0 where
  Unused : ((j : ℕ) (b : Access) → IsLockEvent log j b → b.word ≡ word → ⊥) → value ≡ 0 → LastUse log word value
  Used : (j : ℕ) (b : Access) → IsLockEvent log j b → b.word ≡ word → ((k : ℕ) (c : Access) → IsLockEvent log k c → c.word ≡ word → j < k → ⊥) → b.written ≡ Some value → LastUse log word value

-- each lock word has that value
abbrev pub LocksHaveLastUses : Type 0
LocksHaveLastUses = (w : Config) (log : List Event) (m : Machine) (word : WordAddr) → Reaches w log m → is_lock w word.0 ≡ true → LastUse log word (value_of w m word)

-- the next instruction of a hart asks for the lock word of this number
pub record AsksFor (w : Config) (s : HartState) (i : ℕ) : Type 0 where
  pub word : WordAddr
  pub value : ℕ
  pub lock : is_lock w word.0 ≡ true
  pub at : lock_at w word.0 ≡ i
  pub needs : Needs w.image w.top s (Ask word value)

-- that of each hart in the queue of a lock word does
abbrev pub WaitersAsk : Type 0
WaitersAsk = (w : Config) (log : List Event) (m : Machine) (h i : ℕ) → Reaches w log m → i < w.top.locks → IsQueued h (queue_of w m i) → AsksFor w (hart_at w h m).core i
