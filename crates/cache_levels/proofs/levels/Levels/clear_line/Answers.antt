use Rattle.std.proofs.Common.{ap, ◌∙◌}
use Rattle.cache_levels.specs.View.{LevelsView, without_level_line}
use Rattle.cache_levels.proofs.Parts.{levels_of-without, within-without}
use Rattle.cache_levels.proofs.levels.Levels.clear_line.Goals as goal

pub invariant_of-self : goal.invariant_of-self
invariant_of-self c = rw (c.clear.ensures, c.clear-2.ensures) (within-without _ _ c.args.line.0 c.self.invariant)

pub returns : goal.returns
returns c =
    rw (c.clear.ensures, c.clear-2.ensures)
    (levels_of-without c.self.inside.l1 c.self.inside.l2 c.args.line.0 ∙ ap (λ (v : LevelsView). without_level_line v c.args.line.0) c.self.view_is)
