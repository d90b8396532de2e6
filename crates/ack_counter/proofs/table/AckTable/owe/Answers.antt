use Rattle.std.proofs.Common.{Some, find, refl, ap, sym, ◌∙◌, ◌++◌, ◌∷◌, [], arith}
use Rattle.ack_counter.specs.declared.entries.Entry.{Entry}
use Rattle.ack_counter.specs.View.{TableView}
use Rattle.ack_counter.specs.Steps.{owing, also_owed}
use Rattle.ack_counter.specs.Entries.{is_of, others, entry_owing}
use Rattle.ack_counter.proofs.Held.{table_of, replaced, unchanged, kept-put, room_in_place, counted_in-owing}
use Rattle.ack_counter.proofs.table.AckTable.owe.Goals as goal

pub returns-in_default : goal.returns-in_default
returns-in_default c =
    let is = sym (c.of_line.ensures ∙ ap (find (is_of c.args.line.0)) c.deref.ensures.0) ∙ c.in_default.is in
    sym c.self.view_is
    ∙ unchanged c.self.inside.capacity c.self.inside.entries.items c.args.line.0 (λ e. Some (also_owed c.args.hart e)) is
    ∙ ap (λ (t : TableView). owing t c.args.line.0 c.args.hart) c.self.view_is

pub put-requires : goal.put-requires
put-requires c =
    let is = sym (c.of_line.ensures ∙ ap (find (is_of c.args.line.0)) c.deref.ensures.0) ∙ c.in-Some.is in
    omega (arith, c.self.invariant.bounded, room_in_place c.self.inside.capacity c.self.inside.entries.items c.args.line.0 c.in-Some.entry c.owing.result c.self.invariant is (ap (λ e. e.line.0) c.owing.ensures.same))

pub invariant_of-self : goal.invariant_of-self
invariant_of-self c =
    let is = sym (c.of_line.ensures ∙ ap (find (is_of c.args.line.0)) c.deref.ensures.0) ∙ c.in-Some.is in
    rw c.put.ensures
    (kept-put c.self.inside.capacity c.self.inside.entries.items c.owing.result c.self.invariant (room_in_place c.self.inside.capacity c.self.inside.entries.items c.args.line.0 c.in-Some.entry c.owing.result c.self.invariant is (ap (λ e. e.line.0) c.owing.ensures.same)))

pub returns : goal.returns
returns c =
    let is = sym (c.of_line.ensures ∙ ap (find (is_of c.args.line.0)) c.deref.ensures.0) ∙ c.in-Some.is in
    let new : Entry = entry_owing c.args.hart c.in-Some.entry in
    ap (table_of c.self.inside.capacity) (c.put.ensures ∙ ap (λ e. others e.line.0 c.self.inside.entries.items ++ e ∷ []) c.owing.ensures.same)
    ∙ replaced c.self.inside.capacity c.self.inside.entries.items c.args.line.0 c.in-Some.entry new (λ e. Some (also_owed c.args.hart e)) is refl (ap Some (counted_in-owing c.args.hart c.in-Some.entry c.requires c.owing.ensures.marks))
    ∙ ap (λ (t : TableView). owing t c.args.line.0 c.args.hart) c.self.view_is
