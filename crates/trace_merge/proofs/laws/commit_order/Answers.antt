use Rattle.trace_merge.proofs.Law.{is_sequential}
use Rattle.trace_merge.proofs.laws.commit_order.Goals as goal

pub returns : goal.returns
returns c = λ image t log labelled admissible. is_sequential image t log admissible labelled
