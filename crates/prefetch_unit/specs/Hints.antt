-- Which slot a prefetch hint opens.
use Rattle.std.specs.Prelude.{◌≡◌, ◌≢◌, ◌≤◌, ◌<◌, ℕ, Bool, true, false, not, ◌&&◌, None}
use Rattle.dash_base.specs.declared.need.HintKind.{HintKind}
use Rattle.dash_base.specs.declared.need.HintKind.TheVariants.{Fetch, Shared, Exclusive}
use Rattle.remote_cache.specs.View.{SlotsView, count, first_prefetch, slot_at, slot_of}
use Rattle.ack_counter.specs.View.{TableView, has_room}

-- a hint to read is for a line of which the cluster has no copy; one to own for a line that it does not own, and it needs a count of acknowledgements
abbrev pub kind_opens : HintKind → Bool → Bool → TableView → Bool
kind_opens Fetch copy owner acks = false
kind_opens Shared copy owner acks = not copy
kind_opens Exclusive copy owner acks = not owner && has_room acks

-- n is the least slot for prefetches that is empty
pub record IsLeastEmpty (slots : SlotsView) (n : ℕ) : Type 0 where
  pub from : first_prefetch slots ≤ n
  pub below : n < count slots
  pub empty : slot_at slots n ≡ None
  pub least : (m : ℕ) → first_prefetch slots ≤ m → m < n → slot_at slots m ≢ None

-- no slot for prefetches is empty
pub record AreFull (slots : SlotsView) : Type 0 where
  pub full : (n : ℕ) → first_prefetch slots ≤ n → n < count slots → slot_at slots n ≢ None

-- a hint of this kind for a line opens slot n
pub record Opens (kind : HintKind) (line : ℕ) (copy owner : Bool) (slots : SlotsView) (acks : TableView) (n : ℕ) : Type 0 where
  pub kinds : kind_opens kind copy owner acks ≡ true
  pub lone : slot_of slots line ≡ None
  pub slot : IsLeastEmpty slots n
