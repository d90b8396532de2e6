use Rattle.dash_model.proofs.TableLines.{rows_of_lines}
use Rattle.dash_model.proofs.laws.rows_of_lines.Goals as goal

pub returns : goal.returns
returns c = rows_of_lines
