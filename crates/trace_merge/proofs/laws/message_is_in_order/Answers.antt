use Rattle.trace_merge.specs.WrittenLogs.{message_image, message_log}
use Rattle.trace_merge.proofs.Law.{is_sequential}
use Rattle.trace_merge.proofs.Message.{is_admissible}
use Rattle.trace_merge.proofs.MessageLabelled.{is_labelled}
use Rattle.trace_merge.proofs.laws.message_is_in_order.Goals as goal

pub returns : goal.returns
returns c = λ t simple. is_sequential message_image t message_log (is_admissible t simple) (is_labelled t simple)
