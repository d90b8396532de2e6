use Rattle.cache_levels.proofs.LineSets.{tested}
use Rattle.cache_levels.proofs.line_set.LineSet.has.Goals as goal

pub returns : goal.returns
returns c = tested c.self.inside.places _ c.self.invariant c.self.view_is c.args.line.0 _ _ c.deref.ensures.value c.is_at.ensures
