use Rattle.unit_rows.specs.Shown.{config, shown}
use Rattle.unit_rows.proofs.InWayOfCame.{way_shown, no_way}
use Rattle.unit_rows.proofs.ways.in_the_way.Goals as goal

pub returns-clause-yes : goal.returns-clause-yes
returns-clause-yes c = λ t. way_shown (config c.args.site.now) c.args.site.now.cluster.0 c.args.hart c.args.line.0 (shown c.args.parts.now) c.comes_other.result c.keeps_one_slot_a_line.ensures c.comes_other.ensures t

pub returns-clause-no : goal.returns-clause-no
returns-clause-no c = λ f. no_way (config c.args.site.now) c.args.site.now.cluster.0 c.args.hart c.args.line.0 (shown c.args.parts.now) c.comes_other.result c.comes_other.ensures f
