-- The least refused slot from a number on.
use Rattle.std.specs.Prelude.{◌≡◌, ℕ, ◌<◌, ◌≤◌, true, false}
use Rattle.remote_cache.specs.View.{SlotsView, count, slot_at}
use Rattle.remote_cache.specs.Steps.{is_refused}

-- no slot that is not below a number is refused
pub record NoneRefused (v : SlotsView) (from : ℕ) : Type 0 where
  pub none : (id : ℕ) → from ≤ id → is_refused (slot_at v id) ≡ false

-- this slot is refused and not below the number, and none between is refused
pub record IsLeastRefused (v : SlotsView) (from id : ℕ) : Type 0 where
  pub in_range : id < count v
  pub high : from ≤ id
  pub is : is_refused (slot_at v id) ≡ true
  pub least : (other : ℕ) → from ≤ other → other < id → is_refused (slot_at v other) ≡ false
