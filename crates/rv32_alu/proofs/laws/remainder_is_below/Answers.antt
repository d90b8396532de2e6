use Rattle.rv32_alu.proofs.Division.{below}
use Rattle.rv32_alu.proofs.laws.remainder_is_below.Goals as goal

pub returns : goal.returns
returns c = below
