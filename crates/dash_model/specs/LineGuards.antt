-- What each event of a line needs of its cluster's part, by the rows of the table in their order.
use Rattle.std.specs.Prelude.{◌≡◌, ◌≢◌, ◌⊎◌, ℕ, ◌%◌, Bool, true, false}
use Rattle.dash_model.specs.Config.{Config, cluster_of}
use Rattle.dash_model.specs.Cell.{Refused, Came, Slot, Reads, Owns, NoAcks}
use Rattle.dash_model.specs.LineEffect.{has_copy, has_owner, is_owner}
use Rattle.dash_model.specs.Part.{Part}
use Rattle.dash_model.specs.Words.{held_by, Room}
use Rattle.dash_model.specs.Wants.{NeedsCopy, NeedsOwn, Wants, MayAsk}

-- BusRead: the hart needs a copy, which its cluster has
pub record BusReadFits (w : Config) (c h l : ℕ) (p : Part) : Type 0 where
  pub mine : cluster_of w h ≡ c
  pub need : NeedsCopy w h l p
  pub copy : has_copy (p.cells l).copy ≡ true
  pub room : Room w h l p

-- BusOwn: the hart needs to own the line, of which its cluster has an owner
pub record BusOwnFits (w : Config) (c h l : ℕ) (p : Part) : Type 0 where
  pub mine : cluster_of w h ≡ c
  pub need : NeedsOwn w h l p
  pub owner : has_owner (p.cells l).copy ≡ true
  pub room : Room w h l p

-- Evict: the hart holds the line, wants another one of its index, and is not an owner whose line is pending
pub record EvictFits (w : Config) (c h l : ℕ) (p : Part) : Type 0 where
  pub mine : cluster_of w h ≡ c
  pub holder : held_by h (p.cells l).copy ≡ true
  pub other : ℕ
  pub differs : other ≢ l
  pub index : other % w.top.l2 ≡ l % w.top.l2
  pub wants : Wants w h other p
  pub may_leave : ((p.cells l).acks ≡ NoAcks) ⊎ (is_owner h (p.cells l).copy ≡ false)

-- Ask: the slot may ask
pub record AskFits (w : Config) (c n h l : ℕ) (own : Bool) (p : Part) : Type 0 where
  pub mine : cluster_of w h ≡ c
  pub may : MayAsk w c n h l own p

-- Again: slot n has the line, and is refused
abbrev pub IsRefused : ℕ → Slot → Type 0
IsRefused n (Reads m h Refused) = m ≡ n
IsRefused n (Owns m h Refused) = m ≡ n
IsRefused n slot = ⊥

-- the line came to slot n of hart h
abbrev pub HasCome : ℕ → ℕ → Slot → Type 0
HasCome n h (Reads m t (Came d)) = (m ≡ n) × (t ≡ h)
HasCome n h (Owns m t (Came d)) = (m ≡ n) × (t ≡ h)
HasCome n h slot = ⊥

-- Install: the line came to slot n of hart h, which has room for it
pub record InstallFits (w : Config) (c n h l : ℕ) (p : Part) : Type 0 where
  pub mine : cluster_of w h ≡ c
  pub came : HasCome n h (p.cells l).slot
  pub room : Room w h l p
