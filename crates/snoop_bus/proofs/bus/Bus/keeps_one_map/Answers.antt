use Rattle.std.proofs.Common.{subst}
use Rattle.snoop_bus.specs.View.{BusView, IsOneMap}
use Rattle.snoop_bus.proofs.Becomes.{is_one_map}
use Rattle.snoop_bus.proofs.bus.Bus.keeps_one_map.Goals as goal

pub returns : goal.returns
returns c = subst (λ (b : BusView). IsOneMap b) c.self.view_is (is_one_map c.self.inside.harts.items c.self.invariant)
