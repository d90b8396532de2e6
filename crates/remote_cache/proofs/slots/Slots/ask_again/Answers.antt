use Rattle.std.proofs.Common.{◌<◌, length, refl, subst, sym, ap, ◌∙◌}
use Rattle.remote_cache.specs.declared.slot.Phase.TheVariants.{Asked}
use Rattle.remote_cache.specs.declared.change.Change.TheVariants.{Becomes}
use Rattle.remote_cache.specs.View.{SlotsView, slot_at}
use Rattle.remote_cache.proofs.Changed.{kept-changed}
use Rattle.remote_cache.proofs.slots.Slots.ask_again.Goals as goal

pub invariant_of-self : goal.invariant_of-self
invariant_of-self c =
    let low = subst (λ (v : SlotsView). c.args.id < length v.slots) (sym c.self.view_is) c.requires.in_range in
    let at = ap (λ (v : SlotsView). slot_at v c.args.id) c.self.view_is ∙ sym c.get.ensures ∙ c.unwrap-slot.ensures in
    kept-changed _ _ _ _ _ c.unwrap-slot.result (Becomes (record c.unwrap-slot.result { phase = Asked })) c.deref_mut.ensures.value refl low c.self.invariant at refl
