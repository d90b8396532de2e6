use Rattle.dash_run.proofs.Converses.{no_image_status}
use Rattle.dash_run.proofs.laws.refusal_is_told.Goals as goal

pub returns : goal.returns
returns c = λ call q inputs. no_image_status _ _ _ _ _ _ _ _ q inputs call.ends
