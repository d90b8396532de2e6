use Rattle.dash_model.proofs.LineFacts.{runs_keep_lines}
use Rattle.dash_model.proofs.laws.runs_keep_lines.Goals as goal

pub returns : goal.returns
returns c = runs_keep_lines
