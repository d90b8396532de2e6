use Rattle.std.proofs.Common.{ap, sym, ◌∙◌, is_some}
use Rattle.cache_array.proofs.Changed.{clears, stays}
use Rattle.cache_array.proofs.array.Array.clear.Goals as goal

pub invariant_of-self : goal.invariant_of-self
invariant_of-self c =
    (clears c.self.inside.places _ c.self.invariant c.self.view_is c.args.line.0 _ c.deref.ensures.value _ _ (ap is_some (sym c.copy_of.ensures) ∙ sym c.is_some.ensures ∙ c.if-is_some.true) c.deref_mut.ensures.value c.put.ensures).direct

pub returns-then-is_some : goal.returns-then-is_some
returns-then-is_some c =
    (clears c.self.inside.places _ c.self.invariant c.self.view_is c.args.line.0 _ c.deref.ensures.value _ _ (ap is_some (sym c.copy_of.ensures) ∙ sym c.is_some.ensures ∙ c.if-is_some.true) c.deref_mut.ensures.value c.put.ensures).array

pub returns-else-is_some : goal.returns-else-is_some
returns-else-is_some c =
    stays c.self.inside.places _ c.self.invariant c.self.view_is c.args.line.0 _ c.deref.ensures.value _ c.copy_of.ensures (sym c.is_some.ensures ∙ c.if-is_some.false)
