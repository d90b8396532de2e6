use Rattle.std.proofs.Common.{subst}
use Rattle.cache_levels.specs.View.{LevelsView, IsPartOfL2}
use Rattle.cache_levels.proofs.Parts.{levels_of-part}
use Rattle.cache_levels.proofs.levels.Levels.peek.Goals as goal

pub returns-clause-part : goal.returns-clause-part
returns-clause-part c =
    subst (λ (v : LevelsView). IsPartOfL2 v) c.self.view_is (levels_of-part c.self.inside.l1 c.self.inside.l2 c.self.invariant)
