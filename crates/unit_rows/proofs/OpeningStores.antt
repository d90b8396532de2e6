-- No store waits in the parts at the start.
use Rattle.std.proofs.Common.{ℕ, sym, ap, subst}
use Rattle.write_buffer.specs.View.{BufferView}
use Rattle.dash_model.specs.Config.{Config}
use Rattle.dash_model.specs.LocalHarts.{AreOfMemory}
use Rattle.unit_rows.specs.Shown.{PartsView}
use Rattle.unit_rows.specs.AskFits.{StoresAreOfMemory}
use Rattle.unit_rows.specs.Opening.{IsOpening}

pub opening_stores : (w : Config) (c : ℕ) (v : PartsView) → IsOpening w c v → StoresAreOfMemory w v
opening_stores w c v o = record { inside = λ k d low. subst (AreOfMemory w) (sym (ap (λ (y : BufferView). y.items) (o.locals.each k d low).buffer)) tt }
