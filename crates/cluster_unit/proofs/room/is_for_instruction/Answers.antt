use Rattle.unit_rows.specs.Shown.{config, shown}
use Rattle.cluster_unit.proofs.SerialOnes.{reads_way, writes_way, neither_way}
use Rattle.cluster_unit.proofs.room.is_for_instruction.Goals as goal

pub returns-then-reads_other-clause-yes : goal.returns-then-reads_other-clause-yes
returns-then-reads_other-clause-yes c = λ t. reads_way (config c.args.site.now) c.args.site.now.cluster.0 c.args.hart c.args.line.0 (shown c.args.parts.now) c.reads_other.result c.reads_other.ensures c.if-reads_other.true

pub returns-clause-yes : goal.returns-clause-yes
returns-clause-yes c = λ t. writes_way (config c.args.site.now) c.args.site.now.cluster.0 c.args.hart c.args.line.0 (shown c.args.parts.now) c.writes_other.result c.writes_other.ensures t

pub returns-clause-no : goal.returns-clause-no
returns-clause-no c = λ f. neither_way (config c.args.site.now) c.args.site.now.cluster.0 c.args.hart c.args.line.0 (shown c.args.parts.now) c.reads_other.result c.writes_other.result c.reads_other.ensures c.writes_other.ensures c.if-reads_other.false f
