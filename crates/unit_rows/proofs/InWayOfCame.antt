-- A line in the way of one that came to a slot.
use Rattle.std.proofs.Common.{◌≡◌, ℕ, Bool, true, false, refl}
use Rattle.remote_cache.specs.View.{slot_at, IsOnePerLine}
use Rattle.dash_model.specs.Config.{Config}
use Rattle.dash_model.specs.Part.{Part}
use Rattle.dash_model.specs.Settling.{IsInTheWay}
use Rattle.unit_rows.specs.Shown.{PartsView, hart_at, Shows}
use Rattle.unit_rows.specs.EvictFits.{Another, SlotTells, ComesFor}
use Rattle.unit_rows.proofs.OtherLines.{came_at, none_came}

as_way : (w : Config) (h l : ℕ) (p : Part) → Another w l (ComesFor h) p → IsInTheWay w h l p
as_way w h l p o = record { other = o.other; differs = o.differs; index = o.index; came = o.is_so }

as_other : (w : Config) (h l : ℕ) (p : Part) → IsInTheWay w h l p → Another w l (ComesFor h) p
as_other w h l p o = record { other = o.other; differs = o.differs; index = o.index; is_so = o.came }

pub way_shown : (w : Config) (c k l : ℕ) (v : PartsView) (b : Bool) → IsOnePerLine v.slots.slots → SlotTells w v.slots k l b → b ≡ true → (p : Part) → Shows w c v p → IsInTheWay w (hart_at w c k) l p
way_shown w c k l v true one came e p shows = as_way w (hart_at w c k) l p (came_at w c k l came.slot v p (slot_at v.slots came.slot) one shows refl came.came)
way_shown w c k l v false one came e p shows = absurd (cc)

pub no_way : (w : Config) (c k l : ℕ) (v : PartsView) (b : Bool) → SlotTells w v.slots k l b → b ≡ false → (p : Part) → Shows w c v p → IsInTheWay w (hart_at w c k) l p → ⊥
no_way w c k l v true came e p shows way = absurd (cc)
no_way w c k l v false came e p shows way = none_came w c k l v p came shows (as_other w (hart_at w c k) l p way)
