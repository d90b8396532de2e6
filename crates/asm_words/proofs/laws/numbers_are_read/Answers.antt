use Rattle.asm_words.proofs.Again.{numbers_again}
use Rattle.asm_words.proofs.laws.numbers_are_read.Goals as goal

pub returns : goal.returns
returns c = numbers_again
