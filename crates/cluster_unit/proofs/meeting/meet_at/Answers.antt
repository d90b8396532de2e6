use Rattle.std.proofs.Common.{rules}
use Rattle.cluster_unit.proofs.EndsMet.{learned_at}
use Rattle.cluster_unit.proofs.meeting.meet_at.Goals as goal

pub returns-clause-learned : goal.returns-clause-learned
returns-clause-learned c = learned_at c.args.inlets.now c.args.into c.index-inlets-into.result c.meet_and_flush.new.inlet c.requires.into (search rules) (search rules) (search rules)
