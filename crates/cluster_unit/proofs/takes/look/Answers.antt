use Rattle.std.proofs.Common.{ap, sym, ◌∙◌}
use Rattle.circular_buffer.proofs.Places.{slice_get-set_same, slice_get-set_other}
use Rattle.cluster_unit.specs.Ends.{knows}
use Rattle.cluster_unit.proofs.Looking.{looked_at, shows_is}
use Rattle.cluster_unit.proofs.takes.look.Goals as goal

pub returns-clause-looked : goal.returns-clause-looked
returns-clause-looked c =
    looked_at c.args.inlets.now c.args.at c.index-inlets-at.result c.peek.new.self c.requires c.peek.ensures.lane c.peek.ensures.received c.peek.ensures.known

pub returns-clause-others : goal.returns-clause-others
returns-clause-others c j far = slice_get-set_other c.args.inlets.now c.args.at j c.peek.new.self far

pub returns-clause-shows : goal.returns-clause-shows
returns-clause-shows c = c.is_some.ensures ∙ shows_is c.peek.result c.peek.new.self c.peek.ensures.some c.peek.ensures.none ∙ ap knows (sym (slice_get-set_same c.args.inlets.now c.args.at c.peek.new.self c.requires))
