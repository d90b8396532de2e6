use Rattle.std.proofs.Common.{◌<◌, ◌++◌, ◌∷◌, [], subst, ap, sym, ◌∙◌, arith}
use Rattle.ack_counter.specs.View.{TableView, count}
use Rattle.ack_counter.specs.Steps.{with_entry, begun}
use Rattle.ack_counter.specs.Entries.{others, fresh_entry}
use Rattle.ack_counter.proofs.Finds.{length-others}
use Rattle.ack_counter.proofs.Held.{table_of, count-table_of, table_of-put, counted_in-fresh, kept-put}
use Rattle.ack_counter.proofs.table.AckTable.begin.Goals as goal

pub put-requires : goal.put-requires
put-requires c =
    let room = subst (λ (t : TableView). count t < t.capacity) (sym c.self.view_is) c.requires in
    let few = count-table_of c.self.inside.capacity c.self.inside.entries.items c.self.invariant.apart in
    omega (arith, room, few, c.self.invariant.bounded, length-others c.self.inside.entries.items c.fresh.result.line.0)

pub invariant_of-self : goal.invariant_of-self
invariant_of-self c =
    let room = subst (λ (t : TableView). count t < t.capacity) (sym c.self.view_is) c.requires in
    let few = count-table_of c.self.inside.capacity c.self.inside.entries.items c.self.invariant.apart in
    rw c.put.ensures
    (kept-put c.self.inside.capacity c.self.inside.entries.items c.fresh.result c.self.invariant (omega (arith, room, few, length-others c.self.inside.entries.items c.fresh.result.line.0)))

pub returns : goal.returns
returns c =
    ap (table_of c.self.inside.capacity) (c.put.ensures ∙ ap (λ e. others e.line.0 c.self.inside.entries.items ++ e ∷ []) c.fresh.ensures)
    ∙ table_of-put c.self.inside.capacity c.self.inside.entries.items (fresh_entry c.args.line)
    ∙ ap (with_entry (table_of c.self.inside.capacity c.self.inside.entries.items) c.args.line.0) (counted_in-fresh c.args.line)
    ∙ ap (λ (t : TableView). begun t c.args.line.0) c.self.view_is
