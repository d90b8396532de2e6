use Rattle.asm_words.proofs.Again.{registers_again}
use Rattle.asm_words.proofs.laws.registers_are_read.Goals as goal

pub returns : goal.returns
returns c = registers_again
