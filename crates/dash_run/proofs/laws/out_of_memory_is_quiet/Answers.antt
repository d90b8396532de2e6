use Rattle.dash_run.proofs.Causes.{memory_quiet}
use Rattle.dash_run.proofs.laws.out_of_memory_is_quiet.Goals as goal

pub returns : goal.returns
returns c = λ call. memory_quiet _ _ _ _ _ _ _ _ call.ends
