use Rattle.rv32_decode.proofs.Unique.{one_word}
use Rattle.rv32_decode.proofs.laws.one_word.Goals as goal

pub returns : goal.returns
returns c = one_word
