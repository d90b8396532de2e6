-- What every run keeps of messages, waiters and lock words.
use Rattle.std.specs.Prelude.{◌≡◌, ◌⊎◌, ℕ, ◌+◌, ◌*◌, ◌<◌, ◌≤◌, true, cond, List, [], ◌∷◌, ◌++◌, sum_by}
use Rattle.dash_base.specs.declared.id.WordAddr.{WordAddr}
use Rattle.dash_msg.specs.declared.msg.Msg.{Msg}
use Rattle.dash_msg.specs.declared.msg.Msg.TheVariants.{LockAsk, Unlock as UnlockMsg, LockGrant, UnlockAck}
use Rattle.dash_event.specs.declared.access.Access.{Access}
use Rattle.dash_event.specs.declared.access.Seen.TheVariants.{Lock}
use Rattle.dash_event.specs.declared.event.Event.{Event}
use Rattle.hart_core.specs.HartState.{HartState}
use Rattle.hart_core.specs.Meaning.{Needs}
use Rattle.dash_base.specs.declared.need.Need.{Need}
use Rattle.dash_base.specs.declared.need.Need.TheVariants.{Ask, Unlock}
use Rattle.dash_model.specs.Maps.{weigh, total}
use Rattle.dash_model.specs.Config.{Config, all_harts, cluster_of, lines, is_lock, lock_at, lock_home}
use Rattle.dash_model.specs.Coherent.{ServesLock, lock_uses}
use Rattle.dash_model.specs.Cell.{NoCopy, NoSlot}
use Rattle.dash_model.specs.Net.{Packet}
use Rattle.dash_model.specs.Part.{Waiter}
use Rattle.dash_model.specs.OnLine.{one}
use Rattle.dash_model.specs.Ranges.{in_range}
use Rattle.dash_model.specs.LineFacts.{cell_at, IsOnItsWay}
use Rattle.dash_model.specs.Machine.{Machine, IsRun, Reaches}

-- each message on its way goes to a cluster of the machine, is of a line of memory or of a lock word, and its numbers are in range for the cluster that it goes to: its line or word is at home there where its row wants that, and the clusters and harts that it names exist
abbrev pub MessagesAreInRange : Type 0
MessagesAreInRange = (w : Config) (log : List Event) (m : Machine) (q : Packet) → Reaches w log m → IsOnItsWay q m.net → (q.dst < w.top.clusters) × (in_range w q.dst q.msg ≡ true)

-- of a line that is not of memory there is no copy and no slot, nor of any line at what is no cluster of the machine
abbrev pub LinesAreOfMemory : Type 0
LinesAreOfMemory = (w : Config) (log : List Event) (m : Machine) (l c : ℕ) → (lines w ≤ l) ⊎ (w.top.clusters ≤ c) → Reaches w log m → ((cell_at l m c).copy ≡ NoCopy) × ((cell_at l m c).slot ≡ NoSlot)

-- who waits for the lock word of this number, at its home
abbrev pub queue_of : Config → Machine → ℕ → List Waiter
queue_of w m i = ((m.parts (lock_home w i)).locks i).queue

-- each of these waiters is a hart of the machine
abbrev pub AllAreHarts : Config → List Waiter → Type 0
AllAreHarts w [] = Unit {0}
AllAreHarts w (x ∷ xs) = (x.hart < all_harts w) × AllAreHarts w xs

-- 1 where a message is a lock message of hart h: it asks for a lock word, frees one, or answers
abbrev pub of_hart_msg : ℕ → Msg → ℕ
of_hart_msg h (LockAsk t n word v) = one t.0 h
of_hart_msg h (UnlockMsg t n word) = one t.0 h
of_hart_msg h (LockGrant t) = one t.0 h
of_hart_msg h (UnlockAck t old) = one t.0 h
of_hart_msg h m = 0

-- the same of a message on its way
abbrev pub of_hart : ℕ → Packet → ℕ
of_hart h q = of_hart_msg h q.msg

-- 1 where a waiter is hart h
abbrev pub is_waiter : ℕ → Waiter → ℕ
is_waiter h x = one x.hart h

-- the places of hart h in the queues of the lock words, each at its home
abbrev pub places_of : Config → Machine → ℕ → ℕ
places_of w m h = total (λ i. weigh (is_waiter h) (queue_of w m i)) w.top.locks

-- 1 where the lock instruction of hart h was sent
abbrev pub asking : Config → Machine → ℕ → ℕ
asking w m h = cond ((m.parts (cluster_of w h)).harts h).asked 1 0

-- what a lock instruction needs, to ask for a lock word or to free one
abbrev pub IsLock : Need → Type 0
IsLock (Ask word value) = Unit {0}
IsLock (Unlock word) = Unit {0}
IsLock need = ⊥

-- the hart's next instruction is one
pub record NeedsLock (w : Config) (s : HartState) : Type 0 where
  pub need : Need
  pub needs : Needs w.image w.top s need
  pub lock : IsLock need

-- waiters are harts of the machine; a hart whose lock instruction was sent has one lock message on its way or one place in a queue, and another hart none; and that instruction is still its next
pub record LockFacts (w : Config) (m : Machine) : Type 0 where
  pub waiters : (c i : ℕ) → AllAreHarts w ((m.parts c).locks i).queue
  pub one_each : (h : ℕ) → weigh (of_hart h) m.net + places_of w m h ≡ asking w m h
  pub next : (h : ℕ) → ((m.parts (cluster_of w h)).harts h).asked ≡ true → NeedsLock w ((m.parts (cluster_of w h)).harts h).core

-- every run keeps these
abbrev pub RunsKeepLocks : Type 0
RunsKeepLocks = (w : Config) (log : List Event) (m : Machine) → Reaches w log m → LockFacts w m

-- how often a log grants or frees a lock word
abbrev pub uses_of : WordAddr → List Event → ℕ
uses_of word log = sum_by (λ (e : Event). lock_uses word e.kind) log

-- the count of a lock word is how often the log grants or frees it, which is no oftener than harts have instructions
pub record IsCounted (w : Config) (log : List Event) (m : Machine) (word : WordAddr) : Type 0 where
  pub count : ((m.parts (lock_home w (lock_at w word.0))).locks (lock_at w word.0)).count ≡ uses_of word log
  pub bound : uses_of word log ≤ all_harts w * w.top.budget

-- in every run, of each lock word
abbrev pub LocksAreCounted : Type 0
LocksAreCounted = (w : Config) (log : List Event) (m : Machine) (word : WordAddr) → is_lock w word.0 ≡ true → Reaches w log m → IsCounted w log m word

-- so each access of a lock word that an event of a run serves is shown how many the log has before it
abbrev pub LockUsesAreNumbered : Type 0
LockUsesAreNumbered = (w : Config) (before rest : List Event) (e : Event) (a : Access) → IsRun w (before ++ (e ∷ rest)) → ServesLock e.kind a → a.seen ≡ Lock (uses_of a.word before)
