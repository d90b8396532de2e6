-- Lock words by their addresses, as code finds them.
use Rattle.std.specs.Prelude.{◌≡◌, ℕ, ◌+◌, ◌*◌, ◌<◌, ◌%◌, true, cond, Option, Some, None, [], ◌∷◌, slice_index_or}
use Rattle.dash_base.specs.declared.id.ClusterId.{ClusterId}
use Rattle.dash_base.specs.declared.id.HartId.{HartId}
use Rattle.dash_base.specs.declared.id.WordAddr.{WordAddr}
use Rattle.dash_msg.specs.declared.msg.Msg.{Msg}
use Rattle.dash_msg.specs.declared.msg.Msg.TheVariants.{LockGrant, UnlockAck, Unlock}
use Rattle.dash_msg.specs.declared.classes.Class.TheVariants.{Request}
use Rattle.dash_msg.specs.declared.parcel.Sent.{Sent}
use Rattle.dash_event.specs.declared.event.Kind.{Kind}
use Rattle.dash_model.specs.Net.{parcel}
use Rattle.dash_model.specs.Machine.{taken}
use Rattle.unit_rows.specs.declared.choice.Choice.TheVariants.{Grant, Take}
use Rattle.unit_rows.specs.Rows.{DoesChoice, Cannot}
use Rattle.dash_event.specs.declared.access.Access.{Access}
use Rattle.dash_event.specs.declared.access.Seen.TheVariants as seen
use Rattle.dash_base.specs.declared.need.Need.TheVariants as needed
use Rattle.hart_core.specs.HartState.{can_go_on}
use Rattle.queue_lock.specs.declared.waiter.Waiter.{Waiter}
use Rattle.dash_model.specs.HartGuards.{IsAccess}
use Rattle.dash_model.specs.Config.{Config, lock_at}
use Rattle.dash_model.specs.Ranges.{own_lock, own_hart}
use Rattle.unit_rows.specs.declared.parts.Local.{Local}
use Rattle.unit_rows.specs.Shown.{PartsView}

-- the number of the lock word at an address, where there is one whose home is c
abbrev pub own_number : Config → ℕ → WordAddr → Option ℕ
own_number w c word = cond (own_lock w c word) (Some (lock_at w word.0)) None

-- the number in cluster c of a hart, where it is one of its harts
abbrev pub own_hart_number : Config → ℕ → HartId → Option ℕ
own_hart_number w c h = cond (own_hart w c h) (Some (h.0 % w.top.harts)) None

-- the message answers a hart's lock instruction with this
abbrev pub IsAnswer : Msg → HartId → ℕ → Type 0
IsAnswer (LockGrant h) hart answer = (h ≡ hart) × (answer ≡ 0)
IsAnswer (UnlockAck h old) hart answer = (h ≡ hart) × (answer ≡ old)
IsAnswer m hart answer = ⊥

-- each hart whose lock instruction was sent has not ended, and has instructions left
pub record AskersGoOn (w : Config) (v : PartsView) : Type 0 where
  pub goes : (k : ℕ) (d : Local) → k < w.top.harts → (slice_index_or v.locals k d).asked ≡ true → can_go_on w.top (slice_index_or v.locals k d).core ≡ true

-- the address of the lock word of a number
abbrev pub address : Config → ℕ → ℕ
address w i = w.top.base + w.top.memory + 4 * i

-- the access of a hart's Ask, and of its Unlock, which is shown this count of the word and, for an Unlock, what the word held
pub record IsAskOf (w : Waiter) (word : WordAddr) (count : ℕ) (a : Access) : Type 0 where
  pub access : IsAccess w.hart.0 w.number (needed.Ask word w.value) 0 true (seen.Lock count) a
  pub word_is : a.word ≡ word

pub record IsUnlockOf (h : HartId) (number : ℕ) (word : WordAddr) (old count : ℕ) (a : Access) : Type 0 where
  pub access : IsAccess h.0 number (needed.Unlock word) old true (seen.Lock count) a
  pub hart_is : a.hart ≡ h
  pub number_is : a.number ≡ number
  pub word_is : a.word ≡ word

-- a lock word was granted, with one message; or none may be, and nothing changes
abbrev pub Granted : Config → ℕ → ℕ → PartsView → PartsView → Option (Kind × Sent) → Type 0
Granted w c i old new None = Cannot w c old (Grant i) × (new ≡ old)
Granted w c i old new (Some done) = DoesChoice w c (Grant i) done.0 old new (done.1 ∷ [])

-- a lock word was freed, with one message: what happened takes just this Unlock
pub record Freed (w : Config) (c : ℕ) (from : ClusterId) (h : HartId) (number : ℕ) (word : WordAddr) (old new : PartsView) (done : Kind × Sent) : Type 0 where
  pub does : DoesChoice w c (Take from Request) done.0 old new (done.1 ∷ [])
  pub takes : (u : ℕ) → taken c u done.0 ≡ parcel from.0 c (Unlock h number word) u ∷ []
