use Rattle.asm_words.proofs.Again.{mnemonics_again}
use Rattle.asm_words.proofs.laws.mnemonics_are_read.Goals as goal

pub returns : goal.returns
returns c = mnemonics_again
