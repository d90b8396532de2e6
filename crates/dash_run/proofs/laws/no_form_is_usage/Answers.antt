use Rattle.dash_run.proofs.Converses.{no_form_status}
use Rattle.dash_run.proofs.laws.no_form_is_usage.Goals as goal

pub returns : goal.returns
returns c = λ call. no_form_status _ _ _ _ _ _ _ _ call.ends
