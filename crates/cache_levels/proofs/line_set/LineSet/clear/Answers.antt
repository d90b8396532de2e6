use Rattle.std.proofs.Common.{sym, ◌∙◌}
use Rattle.cache_levels.proofs.LineSets.{clears, stays}
use Rattle.cache_levels.proofs.line_set.LineSet.clear.Goals as goal

pub invariant_of-self : goal.invariant_of-self
invariant_of-self c =
    (clears c.self.inside.places _ c.self.invariant c.self.view_is c.args.line.0 _ c.deref.ensures.value _ _ (sym c.is_at.ensures ∙ c.if-is_at.true) c.deref_mut.ensures.value c.put.ensures).direct

pub returns-then-is_at : goal.returns-then-is_at
returns-then-is_at c =
    (clears c.self.inside.places _ c.self.invariant c.self.view_is c.args.line.0 _ c.deref.ensures.value _ _ (sym c.is_at.ensures ∙ c.if-is_at.true) c.deref_mut.ensures.value c.put.ensures).set_is

pub returns-else-is_at : goal.returns-else-is_at
returns-else-is_at c =
    stays c.self.inside.places _ c.self.invariant c.self.view_is c.args.line.0 _ c.deref.ensures.value (sym c.is_at.ensures ∙ c.if-is_at.false)
