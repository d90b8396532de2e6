use Rattle.unit_rows.specs.Shown.{config, shown}
use Rattle.cluster_unit.proofs.SerialOnes.{no_read, read_at}
use Rattle.cluster_unit.proofs.first_serial.read_for_instruction.Goals as goal

pub returns-in_default : goal.returns-in_default
returns-in_default c = no_read (config c.args.site.now) c.args.site.now.cluster.0 c.args.hart (shown c.args.parts.now) c.in_default.ensures.needed

pub returns : goal.returns
returns c = read_at (config c.args.site.now) c.args.site.now.cluster.0 c.args.hart (shown c.args.parts.now) c.in-Some.line c.enabled.result c.in-Some.ensures.needed c.enabled.ensures
