use Rattle.rv32_alu.proofs.Division.{of_negative}
use Rattle.rv32_alu.proofs.laws.remainder_of_negative.Goals as goal

pub returns : goal.returns
returns c = of_negative
