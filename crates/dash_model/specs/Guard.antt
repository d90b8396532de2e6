-- What each event needs of its cluster's part; of Free and Take, beside the message at the head of a lane.
use Rattle.std.specs.Prelude.{◌≡◌, ℕ, ◌&&◌, Bool, true, false, List, ◌∷◌}
use Rattle.dash_base.specs.declared.id.HartId.{HartId}
use Rattle.dash_base.specs.declared.id.WordAddr.{WordAddr}
use Rattle.dash_msg.specs.declared.msg.Msg.{Msg}
use Rattle.dash_msg.specs.declared.msg.Msg.TheVariants.{Unlock, LockGrant, UnlockAck}
use Rattle.dash_event.specs.declared.access.Access.{Access}
use Rattle.dash_event.specs.declared.access.Seen.TheVariants as seen
use Rattle.dash_event.specs.declared.event.Kind.{Kind}
use Rattle.dash_event.specs.declared.event.Kind.TheVariants as kind
use Rattle.hart_core.specs.Meaning.{Does}
use Rattle.dash_base.specs.declared.need.Need.TheVariants as needed
use Rattle.dash_model.specs.Config.{Config, lock_at}
use Rattle.dash_model.specs.Part.{Waiter, Part}
use Rattle.dash_model.specs.HartRows.{HartEffect}
use Rattle.dash_model.specs.Ranges.{has_hart, own_hart, own_lock}
use Rattle.dash_model.specs.HartGuards.{RetiresAt, IsAccess, FenceFits, HintFits, LoadFits, StoreFits, CommitFits, RmwFits, ScFailFits, LockSendFits}
use Rattle.dash_model.specs.LineGuards.{BusReadFits, BusOwnFits, EvictFits, AskFits, IsRefused, InstallFits}

-- Grant: a lock word of this home is 0, and its queue is not empty
pub record GrantFits (w : Config) (c : ℕ) (a : Access) (p : Part) : Type 0 where
  pub mine : own_lock w c a.word ≡ true
  pub is_zero : (p.locks (lock_at w a.word.0)).value ≡ 0
  pub waiter : Waiter
  pub others : List Waiter
  pub queue : (p.locks (lock_at w a.word.0)).queue ≡ waiter ∷ others
  pub access : IsAccess waiter.hart waiter.number (needed.Ask a.word waiter.value) 0 true (seen.Lock (p.locks (lock_at w a.word.0)).count) a

-- whether cluster c serves an Unlock: its hart is one of the machine, and its word a lock word of this home
abbrev pub frees : Config → ℕ → HartId → WordAddr → Bool
frees w c h word = has_hart w h && own_lock w c word

-- Free: the Unlock is this home's to serve
pub record FreeFits (w : Config) (c : ℕ) (a : Access) (p : Part) : Type 0 where
  pub serves : frees w c a.hart a.word ≡ true
  pub access : IsAccess a.hart.0 a.number (needed.Unlock a.word) (p.locks (lock_at w a.word.0)).value true (seen.Lock (p.locks (lock_at w a.word.0)).count) a

-- where its lock instruction was sent, the hart does it with this answer
abbrev pub DoesIf : Bool → Config → ℕ → ℕ → HartEffect → Part → Type 0
DoesIf true w h answer d p = Does w.image w.top (p.harts h).core d.need answer d.next
DoesIf false w h answer d p = Unit {0}

-- Take: Free is not what takes the message
abbrev pub TakeFits : Config → ℕ → Msg → HartEffect → Part → Type 0
TakeFits w c (Unlock h n word) d p = frees w c h word ≡ false
TakeFits w c (LockGrant h) d p = DoesIf (own_hart w c h && (p.harts h.0).asked) w h.0 0 d p
TakeFits w c (UnlockAck h old) d p = DoesIf (own_hart w c h && (p.harts h.0).asked) w h.0 old d p
TakeFits w c m d p = Unit {0}

-- what may happen at cluster c
unfoldable pub Guard : Config → ℕ → Kind → HartEffect → Part → Type 0
Guard w c (kind.Alu h pc) d p = RetiresAt w c h.0 pc needed.Alu d p
Guard w c (kind.Fence h pc) d p = FenceFits w c h.0 pc d p
Guard w c (kind.Hint h pc slot) d p = HintFits w c h.0 pc slot d p
Guard w c (kind.Put h pc byte) d p = RetiresAt w c h.0 pc (needed.Put byte) d p
Guard w c (kind.Stop h pc end) d p = RetiresAt w c h.0 pc (needed.Stop end) d p
Guard w c (kind.Load a level) d p = LoadFits w c a level d p
Guard w c (kind.Store a) d p = StoreFits w c a d p
Guard w c (kind.Commit h n l v) d p = CommitFits w c h.0 n l.0 v p
Guard w c (kind.Rmw a l v) d p = RmwFits w c a l.0 v d p
Guard w c (kind.ScFail a) d p = ScFailFits w c a d p
Guard w c (kind.LockSend h m) d p = LockSendFits w c h.0 m p
Guard w c (kind.BusRead h l) d p = BusReadFits w c h.0 l.0 p
Guard w c (kind.BusOwn h l) d p = BusOwnFits w c h.0 l.0 p
Guard w c (kind.Evict h l) d p = EvictFits w c h.0 l.0 p
Guard w c (kind.Ask slot h l own) d p = AskFits w c slot h.0 l.0 own p
Guard w c (kind.Again slot l) d p = IsRefused slot (p.cells l.0).slot
Guard w c (kind.Install slot h l) d p = InstallFits w c slot h.0 l.0 p
Guard w c (kind.Grant a) d p = GrantFits w c a p
Guard w c (kind.Free f a) d p = FreeFits w c a p
Guard w c (kind.Take f m) d p = TakeFits w c m d p
