use Rattle.rv32_alu.proofs.Division.{whole}
use Rattle.rv32_alu.proofs.laws.quotient_and_remainder.Goals as goal

pub returns : goal.returns
returns c = whole
