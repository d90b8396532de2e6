use Rattle.std.proofs.Common.{ap, sym, ◌∙◌, is_some, find, Option, Some, None, ◌≡◌, refl, option_map}
use Rattle.ack_counter.specs.declared.entries.Entry.{Entry}
use Rattle.ack_counter.specs.View.{TableView, is_pending}
use Rattle.ack_counter.specs.Entries.{is_of, counted_in}
use Rattle.ack_counter.proofs.Held.{entry_at-table_of}
use Rattle.ack_counter.proofs.table.AckTable.pending.Goals as goal

same_some : (o : Option Entry) → is_some o ≡ is_some (option_map counted_in o)
same_some None = refl
same_some (Some e) = refl

pub returns : goal.returns
returns c =
    c.is_some.ensures
    ∙ ap is_some (c.of_line.ensures ∙ ap (find (is_of c.args.line.0)) c.deref.ensures.0)
    ∙ same_some _
    ∙ ap is_some (sym (entry_at-table_of c.self.inside.capacity c.self.inside.entries.items c.args.line.0))
    ∙ ap (λ (t : TableView). is_pending t c.args.line.0) c.self.view_is
