use Rattle.std.proofs.Common.{◌≡◌, ◌<◌, length, subst, sym, None}
use Rattle.remote_cache.specs.View.{SlotsView, slot_of}
use Rattle.remote_cache.proofs.Changed.{kept-issued}
use Rattle.remote_cache.proofs.slots.Slots.issue.Goals as goal

pub invariant_of-self : goal.invariant_of-self
invariant_of-self c =
    let low = subst (λ (v : SlotsView). c.args.id < length v.slots) (sym c.self.view_is) c.requires.in_range in
    let free = subst (λ (v : SlotsView). slot_of v c.args.line.0 ≡ None) (sym c.self.view_is) c.requires.no_other in
    kept-issued _ _ _ _ _ c.deref_mut.ensures.value low c.self.invariant free
