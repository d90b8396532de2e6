use Rattle.std.proofs.Common.{sym, ap, ◌∙◌, subst}
use Rattle.cache_array.specs.View.{HasRoom}
use Rattle.cache_levels.specs.View.{LevelsView, with_level_copy}
use Rattle.cache_levels.proofs.Parts.{levels_of-with_copy, within-with_copy}
use Rattle.cache_levels.proofs.levels.Levels.install.Goals as goal

pub set-requires : goal.set-requires
set-requires c = subst (λ (v : LevelsView). HasRoom v.l2 c.args.line.0) (sym c.self.view_is) c.requires

pub invariant_of-self : goal.invariant_of-self
invariant_of-self c =
    let room : HasRoom c.self.inside.l2 c.args.line.0 = subst (λ (v : LevelsView). HasRoom v.l2 c.args.line.0) (sym c.self.view_is) c.requires in
    rw c.set.ensures (within-with_copy c.self.inside.l1 c.self.inside.l2 c.args.line.0 c.args.copy c.self.invariant room)

pub returns : goal.returns
returns c =
    rw c.set.ensures
    (levels_of-with_copy c.self.inside.l1 c.self.inside.l2 c.args.line.0 c.args.copy ∙ ap (λ (v : LevelsView). with_level_copy v c.args.line.0 c.args.copy) c.self.view_is)
