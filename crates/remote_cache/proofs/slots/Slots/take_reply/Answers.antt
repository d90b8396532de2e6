use Rattle.std.proofs.Common.{◌<◌, length, subst, sym, ap, ◌∙◌}
use Rattle.remote_cache.specs.View.{SlotsView, slot_at}
use Rattle.remote_cache.proofs.Changed.{KeepsLine, kept-changed, on_reply_keeps}
use Rattle.remote_cache.proofs.slots.Slots.take_reply.Goals as goal

pub invariant_of-self : goal.invariant_of-self
invariant_of-self c =
    let low = subst (λ (v : SlotsView). c.in_ok-id.id < length v.slots) (sym c.self.view_is) c.in_ok-id.ensures.in_range in
    let at = ap (λ (v : SlotsView). slot_at v c.in_ok-id.id) c.self.view_is ∙ sym c.get.ensures ∙ c.in_ok-slot.was in
    let keeps = subst (KeepsLine c.in_ok-slot.slot) (sym c.on_reply-change.ensures) (on_reply_keeps _ c.args.msg.now c.in_ok-slot.slot) in
    kept-changed _ _ _ _ _ c.in_ok-slot.slot _ c.deref_mut.ensures.value c.apply.ensures.slots low c.self.invariant at keeps
