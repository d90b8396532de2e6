use Rattle.flat_model.proofs.InOrder.{turns_are_steps}
use Rattle.flat_model.proofs.laws.runs_in_order_are_runs.Goals as goal

pub returns : goal.returns
returns c = λ image t hs rs s run. turns_are_steps image t _ hs rs s run
