use Rattle.dash_run.proofs.Broken.{failed_report}
use Rattle.dash_run.proofs.laws.failed_report_leaves_run.Goals as goal

pub returns : goal.returns
returns c = λ call q inputs loaded accepted is_five. failed_report _ _ _ _ _ _ _ _ q inputs call.ends loaded accepted is_five
