use Rattle.std.proofs.Common.{ap, ◌∙◌}
use Rattle.ack_counter.specs.View.{TableView}
use Rattle.ack_counter.specs.Steps.{cancelled}
use Rattle.ack_counter.proofs.Held.{table_of, table_of-others, kept-others}
use Rattle.ack_counter.proofs.table.AckTable.cancel.Goals as goal

pub invariant_of-self : goal.invariant_of-self
invariant_of-self c = rw c.remove.ensures (kept-others _ _ c.args.line.0 c.self.invariant)

pub returns : goal.returns
returns c =
    ap (table_of c.self.inside.capacity) c.remove.ensures
    ∙ table_of-others c.self.inside.capacity c.self.inside.entries.items c.args.line.0
    ∙ ap (λ (t : TableView). cancelled t c.args.line.0) c.self.view_is
