use Rattle.dash_run.proofs.Converses.{large_status}
use Rattle.dash_run.proofs.laws.large_file_is_fault.Goals as goal

pub returns : goal.returns
returns c = λ call q file_at file bytes. large_status _ _ _ _ _ _ _ _ q file_at file bytes call.ends
