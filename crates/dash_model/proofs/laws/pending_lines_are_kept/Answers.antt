use Rattle.dash_model.proofs.PendingFacts.{pending_lines_are_kept}
use Rattle.dash_model.proofs.laws.pending_lines_are_kept.Goals as goal

pub returns : goal.returns
returns c = pending_lines_are_kept
