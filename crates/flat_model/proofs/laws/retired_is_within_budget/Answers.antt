use Rattle.std.proofs.Common.{arith}
use Rattle.flat_model.proofs.InRuns.{within_budget}
use Rattle.flat_model.proofs.laws.retired_is_within_budget.Goals as goal

pub returns : goal.returns
returns c = λ image t rs s run h. within_budget image t _ rs s run (λ g. omega arith) h
