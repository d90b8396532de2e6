use Rattle.flat_model.proofs.InOrder.{turns_are_one}
use Rattle.flat_model.proofs.laws.runs_in_order_are_one.Goals as goal

pub returns : goal.returns
returns c = λ image t hs rs rs' s s' run run'. turns_are_one image t _ hs rs rs' s s' run run'
