use Rattle.std.proofs.Common.{ap, arith}
use Rattle.ack_counter.specs.View.{count}
use Rattle.std.proofs.lemmas.Bool.Decides.{nat_tests}
use Rattle.ack_counter.proofs.Held.{count-table_of}
use Rattle.ack_counter.proofs.table.AckTable.is_empty.Goals as goal

pub returns : goal.returns
returns c =
    let full = ap count c.self.view_is in
    grind (arith, nat_tests, full, count-table_of c.self.inside.capacity c.self.inside.entries.items c.self.invariant.apart, c.is_empty.ensures)
