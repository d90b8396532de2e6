use Rattle.std.proofs.Common.{◌≡◌, ◌+◌, Some, find, refl, ap, sym, ◌∙◌, arith, option_map}
use Rattle.ack_counter.specs.declared.entries.Entry.{Entry}
use Rattle.ack_counter.specs.View.{TableView, got_at}
use Rattle.ack_counter.specs.Steps.{acked, counting}
use Rattle.ack_counter.specs.Entries.{is_of, counted_in}
use Rattle.ack_counter.proofs.Held.{table_of, entry_at-table_of, settled, unchanged, kept-settle, room_in_place}
use Rattle.ack_counter.proofs.table.AckTable.ack.Goals as goal

pub returns-in_default : goal.returns-in_default
returns-in_default c =
    let is = sym (c.of_line.ensures ∙ ap (find (is_of c.args.line.0)) c.deref.ensures.0) ∙ c.in_default.is in
    sym c.self.view_is ∙ unchanged c.self.inside.capacity c.self.inside.entries.items c.args.line.0 counting is ∙ ap (λ (t : TableView). acked t c.args.line.0) c.self.view_is

pub settle-requires : goal.settle-requires
settle-requires c =
    let is = sym (c.of_line.ensures ∙ ap (find (is_of c.args.line.0)) c.deref.ensures.0) ∙ c.in-Some.is in
    omega (arith, c.self.invariant.bounded, room_in_place c.self.inside.capacity c.self.inside.entries.items c.args.line.0 c.in-Some.entry c.in-Some.entry c.self.invariant is refl)

pub invariant_of-self : goal.invariant_of-self
invariant_of-self c =
    let is = sym (c.of_line.ensures ∙ ap (find (is_of c.args.line.0)) c.deref.ensures.0) ∙ c.in-Some.is in
    let new : Entry = record c.in-Some.entry { got = c.in-Some.entry.got + 1 } in
    rw c.settle.ensures
    (kept-settle c.self.inside.capacity c.self.inside.entries.items new c.self.invariant (room_in_place c.self.inside.capacity c.self.inside.entries.items c.args.line.0 c.in-Some.entry new c.self.invariant is refl))

pub returns : goal.returns
returns c =
    let is = sym (c.of_line.ensures ∙ ap (find (is_of c.args.line.0)) c.deref.ensures.0) ∙ c.in-Some.is in
    let new : Entry = record c.in-Some.entry { got = c.in-Some.entry.got + 1 } in
    ap (table_of c.self.inside.capacity) c.settle.ensures
    ∙ settled c.self.inside.capacity c.self.inside.entries.items c.args.line.0 c.in-Some.entry new counting is refl refl
    ∙ ap (λ (t : TableView). acked t c.args.line.0) c.self.view_is

pub overflow_add-got : goal.overflow_add-got
overflow_add-got c =
    let is = sym (c.of_line.ensures ∙ ap (find (is_of c.args.line.0)) c.deref.ensures.0) ∙ c.in-Some.is in
    let came : got_at (table_of c.self.inside.capacity c.self.inside.entries.items) c.args.line.0 ≡ Some c.in-Some.entry.got =
    ap (option_map (λ e. e.got)) (entry_at-table_of c.self.inside.capacity c.self.inside.entries.items c.args.line.0 ∙ ap (option_map counted_in) is) in
    omega (arith, c.requires c.in-Some.entry.got (ap (λ (t : TableView). got_at t c.args.line.0) (sym c.self.view_is) ∙ came))
