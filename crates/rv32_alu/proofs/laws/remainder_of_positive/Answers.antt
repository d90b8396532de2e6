use Rattle.rv32_alu.proofs.Division.{of_positive}
use Rattle.rv32_alu.proofs.laws.remainder_of_positive.Goals as goal

pub returns : goal.returns
returns c = of_positive
