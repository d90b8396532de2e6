use Rattle.rv32_asm.proofs.Spellings.{texts_are_read}
use Rattle.rv32_asm.proofs.laws.texts_are_read.Goals as goal

pub returns : goal.returns
returns c = texts_are_read
