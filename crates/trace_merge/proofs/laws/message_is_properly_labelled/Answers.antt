use Rattle.trace_merge.proofs.MessageLabelled.{is_labelled}
use Rattle.trace_merge.proofs.laws.message_is_properly_labelled.Goals as goal

pub returns : goal.returns
returns c = λ t simple. is_labelled t simple
