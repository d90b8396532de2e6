use Rattle.rv32_asm.proofs.Pairs.{completes}
use Rattle.rv32_asm.proofs.laws.pairs_give_their_value.Goals as goal

pub returns : goal.returns
returns c = completes
