use Rattle.std.proofs.Common.{subst}
use Rattle.unit_rows.specs.Shown.{shown}
use Rattle.unit_rows.proofs.LawsOffered.{stores_are_of_memory}
use Rattle.cluster_unit.specs.View.{CoreView}
use Rattle.cluster_unit.specs.Serial.{FirstSerial}
use Rattle.cluster_unit.specs.contracts.unit_core.Core.{the_view}
use Rattle.cluster_unit.proofs.SerialOnes.{first_at_core}
use Rattle.cluster_unit.proofs.unit_core.Core.next_serial.Goals as goal

pub first_serial-requires-clause-stores : goal.first_serial-requires-clause-stores
first_serial-requires-clause-stores c = stores_are_of_memory _ _ (shown c.self.inside.parts) c.self.inside.log.items c.self.inside.last c.self.invariant.sent c.self.invariant.received c.self.invariant.local

pub returns : goal.returns
returns c = subst (λ (a : CoreView). FirstSerial a c.args.hart c.first_serial.result) c.self.view_is (first_at_core (shown c.self.inside.parts) c.self.inside.last (the_view c.self.inside) _ c.args.hart c.first_serial.result c.self.invariant c.first_serial.ensures)
