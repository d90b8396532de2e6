use Rattle.dash_run.proofs.Converses.{load_fault_status}
use Rattle.dash_run.proofs.laws.failed_load_is_fault.Goals as goal

pub returns : goal.returns
returns c = λ call. load_fault_status _ _ _ _ _ _ _ _ call.ends
