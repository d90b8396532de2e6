use Rattle.std.proofs.Common.{true}
use Rattle.dash_run.specs.CommandLine.{AsksSizes}
use Rattle.dash_run.proofs.Requests.{none_logged}
use Rattle.dash_run.proofs.command_line.read_sizes_logged.Goals as goal

pub returns-clause-none : goal.returns-clause-none
returns-clause-none c = none_logged c.read_sizes.result c.args.flag.now (AsksSizes c.args.command.now c.args.image.now c.args.clusters.now c.args.harts.now c.args.budget.now true) c.read_sizes.ensures.none
