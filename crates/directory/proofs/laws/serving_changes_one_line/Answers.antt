use Rattle.directory.proofs.Lawful.{serving_changes_one_line}
use Rattle.directory.proofs.laws.serving_changes_one_line.Goals as goal

pub returns : goal.returns
returns c = serving_changes_one_line
