use Rattle.std.proofs.Common.{ap, sym, ◌∙◌, find, Option, Some, None, ◌≡◌, ℕ, refl, option_map, rules}
use Rattle.ack_counter.specs.declared.entries.Entry.{Entry}
use Rattle.ack_counter.specs.View.{TableView, Counted, got_at}
use Rattle.ack_counter.specs.Entries.{is_of, counted_in}
use Rattle.ack_counter.proofs.Held.{entry_at-table_of}
use Rattle.ack_counter.proofs.table.AckTable.got.Goals as goal

abbrev came : Option Counted → Option ℕ
came o = option_map (λ e. e.got) o

same_some : (o : Option Entry) → option_map (λ e. e.got) o ≡ came (option_map counted_in o)
same_some None = refl
same_some (Some e) = refl

pub returns : goal.returns
returns c =
    let seen = ap came (sym (entry_at-table_of c.self.inside.capacity c.self.inside.entries.items c.args.line.0)) ∙ ap (λ (t : TableView). got_at t c.args.line.0) c.self.view_is in
    let is = c.of_line.ensures ∙ ap (find (is_of c.args.line.0)) c.deref.ensures.0 in
    let mapped : c.map.result ≡ option_map (λ e. e.got) c.of_line.result = search rules in
    mapped ∙ ap (option_map (λ e. e.got)) is ∙ same_some _ ∙ seen
