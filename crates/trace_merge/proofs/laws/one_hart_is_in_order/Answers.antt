use Rattle.flat_model.proofs.LawsOffered.{one_hart}
use Rattle.trace_merge.proofs.Law.{is_sequential}
use Rattle.trace_merge.proofs.laws.one_hart_is_in_order.Goals as goal

pub returns : goal.returns
returns c = λ image t log one admissible. is_sequential image t log admissible (λ rs run i j race. one_hart image t one rs run i j race)
