use Rattle.std.proofs.Common.{◌<◌, length, subst, sym, ap, ◌∙◌}
use Rattle.remote_cache.specs.View.{SlotsView, slot_at}
use Rattle.remote_cache.proofs.Changed.{KeepsLine, kept-changed, on_inval_keeps}
use Rattle.remote_cache.proofs.slots.Slots.poison.Goals as goal

pub invariant_of-self : goal.invariant_of-self
invariant_of-self c =
    let low = subst (λ (v : SlotsView). c.in-Some.id < length v.slots) (sym c.self.view_is) c.in-Some.ensures.in_range in
    let at = ap (λ (v : SlotsView). slot_at v c.in-Some.id) c.self.view_is ∙ sym c.get.ensures ∙ c.in-Some-get.is in
    let keeps = subst (KeepsLine c.in-Some-get.slot) (sym c.on_inval-change.ensures) (on_inval_keeps _ c.in-Some-get.slot c.in-Some-get.slot.own c.in-Some-get.slot.phase) in
    kept-changed _ _ _ _ _ c.in-Some-get.slot _ c.deref_mut.ensures.value c.apply.ensures.slots low c.self.invariant at keeps
