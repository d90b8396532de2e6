use Rattle.std.proofs.Common.{refl}
use Rattle.cluster_unit.proofs.first_serial.enabled.Goals as goal

pub returns-then-not-is_enabled : goal.returns-then-not-is_enabled
returns-then-not-is_enabled c = c.is_enabled.ensures.no c.if-not-is_enabled.true c.requires.own

pub returns : goal.returns
returns c = (refl, c.is_enabled.ensures.yes c.if-not-is_enabled.false)
