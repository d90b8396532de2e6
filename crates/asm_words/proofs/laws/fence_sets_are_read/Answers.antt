use Rattle.asm_words.proofs.Again.{fence_sets_again}
use Rattle.asm_words.proofs.laws.fence_sets_are_read.Goals as goal

pub returns : goal.returns
returns c = fence_sets_again
