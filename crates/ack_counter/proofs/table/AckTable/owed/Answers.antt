use Rattle.std.proofs.Common.{ap, sym, ◌∙◌, count_by}
use Rattle.ack_counter.specs.View.{TableView, owed_to}
use Rattle.ack_counter.specs.Entries.{is_owed}
use Rattle.ack_counter.proofs.Held.{owed_to-table_of}
use Rattle.ack_counter.proofs.table.AckTable.owed.Goals as goal

pub returns : goal.returns
returns c =
    c.owed_to.ensures
    ∙ ap (count_by (is_owed c.args.hart)) c.deref.ensures.0
    ∙ sym (owed_to-table_of c.self.inside.capacity c.self.inside.entries.items c.args.hart c.requires c.self.invariant.apart)
    ∙ ap (λ (t : TableView). owed_to t c.args.hart) c.self.view_is
