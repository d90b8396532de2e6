use Rattle.hart_core.proofs.Unique.{any_answer}
use Rattle.hart_core.proofs.laws.any_answer.Goals as goal

pub returns : goal.returns
returns c = any_answer
