use Rattle.rv32_asm.proofs.LeastLine.{least_line}
use Rattle.rv32_asm.proofs.laws.refusals_are_least.Goals as goal

pub returns : goal.returns
returns c = λ labels here ls number cause e. least_line labels ls here number cause e
