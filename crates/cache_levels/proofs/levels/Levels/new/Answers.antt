use Rattle.cache_levels.proofs.Parts.{levels_of-empty, within-empty}
use Rattle.cache_levels.proofs.levels.Levels.new.Goals as goal

pub invariant_of-result : goal.invariant_of-result
invariant_of-result c = rw (c.in_ok-l1.ensures, c.in_ok-l2.ensures) (within-empty c.args.l1 c.args.l2)

pub returns : goal.returns
returns c = rw (c.in_ok-l1.ensures, c.in_ok-l2.ensures) (levels_of-empty c.args.l1 c.args.l2)
