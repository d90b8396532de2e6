use Rattle.dash_run.proofs.Converses.{accepted_status}
use Rattle.dash_run.proofs.laws.accepted_image_runs.Goals as goal

pub returns : goal.returns
returns c = λ call q inputs. accepted_status _ _ _ _ _ _ _ _ q inputs call.ends
