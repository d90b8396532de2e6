use Rattle.dash_run.proofs.Converses.{print_fault_status}
use Rattle.dash_run.proofs.laws.failed_print_is_fault.Goals as goal

pub returns : goal.returns
returns c = λ call. print_fault_status _ _ _ _ _ _ _ _ call.ends
