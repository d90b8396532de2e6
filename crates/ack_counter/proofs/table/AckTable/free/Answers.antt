use Rattle.std.proofs.Common.{ap, arith}
use Rattle.ack_counter.specs.View.{TableView, count}
use Rattle.std.proofs.lemmas.Bool.Decides.{nat_tests}
use Rattle.ack_counter.proofs.Held.{count-table_of}
use Rattle.ack_counter.proofs.table.AckTable.free.Goals as goal

pub returns : goal.returns
returns c =
    let full = ap count c.self.view_is in
    let few = ap (λ (t : TableView). t.capacity) c.self.view_is in
    grind (arith, nat_tests, full, few, count-table_of c.self.inside.capacity c.self.inside.entries.items c.self.invariant.apart, c.len.ensures.value)
