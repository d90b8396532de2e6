-- The answer is the instruction, since it has the word.
use Rattle.std.proofs.Common.{sym}
use Rattle.rv32_encode.proofs.laws.decode_of_encode.Goals as goal

pub returns : goal.returns
returns c = c.decode.ensures.only c.args.instr.now (sym c.encode.ensures)
