use Rattle.std.proofs.Common.{◌≤◌, subst, arith}
use Rattle.ack_counter.specs.View.{TableView, count}
use Rattle.ack_counter.proofs.Held.{count-table_of}
use Rattle.ack_counter.proofs.table.AckTable.keeps_to_its_capacity.Goals as goal

pub returns : goal.returns
returns c =
    subst (λ (t : TableView). count t ≤ t.capacity) c.self.view_is (omega (arith, count-table_of c.self.inside.capacity c.self.inside.entries.items c.self.invariant.apart, c.self.invariant.few))
