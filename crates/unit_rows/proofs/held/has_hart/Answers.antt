use Rattle.std.proofs.Common.{refl}
use Rattle.snoop_bus.specs.Holding.{has_hart}
use Rattle.unit_rows.proofs.held.has_hart.Goals as goal

pub returns : goal.returns
unfolding has_hart
returns c = refl
