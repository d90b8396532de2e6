use Rattle.rv32_asm.proofs.LeastLine.{no_line}
use Rattle.rv32_asm.proofs.laws.accepted_lines_have_no_cause.Goals as goal

pub returns : goal.returns
returns c = λ labels here ls e. no_line labels ls here e
