use Rattle.std.proofs.Common.{sym, ap, ◌∙◌, subst, ◌≡◌, true}
use Rattle.cache_array.specs.View.{HasRoom, has_line}
use Rattle.cache_levels.specs.View.{LevelsView, with_level_copy}
use Rattle.cache_levels.proofs.Parts.{levels_of-with_copy, within-with_copy}
use Rattle.cache_levels.proofs.levels.Levels.write_owned.Goals as goal

pub set-requires : goal.set-requires
set-requires c = c.self.invariant.l2_one.one c.args.line.0 (subst (λ (v : LevelsView). has_line v.l2 c.args.line.0 ≡ true) (sym c.self.view_is) c.requires)

pub invariant_of-self : goal.invariant_of-self
invariant_of-self c =
    let room : HasRoom c.self.inside.l2 c.args.line.0 = c.self.invariant.l2_one.one c.args.line.0 (subst (λ (v : LevelsView). has_line v.l2 c.args.line.0 ≡ true) (sym c.self.view_is) c.requires) in
    rw c.set.ensures (within-with_copy c.self.inside.l1 c.self.inside.l2 c.args.line.0 c.args.copy c.self.invariant room)

pub returns : goal.returns
returns c =
    rw c.set.ensures
    (levels_of-with_copy c.self.inside.l1 c.self.inside.l2 c.args.line.0 c.args.copy ∙ ap (λ (v : LevelsView). with_level_copy v c.args.line.0 c.args.copy) c.self.view_is)
