use Rattle.std.proofs.Common.{true}
use Rattle.dash_run.specs.CommandLine.{AsksFile}
use Rattle.dash_run.proofs.Requests.{none_logged}
use Rattle.dash_run.proofs.command_line.read_file_logged.Goals as goal

pub returns-clause-none : goal.returns-clause-none
returns-clause-none c = none_logged c.read_file.result c.args.flag.now (AsksFile c.args.command.now c.args.image.now c.args.topology.now true) c.read_file.ensures.none
