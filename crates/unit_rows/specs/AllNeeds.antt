-- The lines that a hart needs, together.
use Rattle.std.specs.Prelude.{ℕ}
use Rattle.dash_model.specs.Config.{Config}
use Rattle.dash_model.specs.Wants.{NeedsCopy, FrontNeed, StoreNeed}
use Rattle.unit_rows.specs.declared.needed.Needed.{Needed}
use Rattle.unit_rows.specs.LineNeeds.{IsNeeded}
use Rattle.unit_rows.specs.Shown.{PartsView, hart_at}

-- hart k needs just these lines
pub record AreNeeded (w : Config) (c : ℕ) (v : PartsView) (k : ℕ) (needed : Needed) : Type 0 where
  pub copy : IsNeeded (λ q p. NeedsCopy w (hart_at w c k) q p) w c v needed.copy
  pub write : IsNeeded (λ q p. FrontNeed w (hart_at w c k) q p) w c v needed.write
  pub store : IsNeeded (λ q p. StoreNeed w (hart_at w c k) q p) w c v needed.store
