use Rattle.std.proofs.Common.{◌≡◌, ◌≤◌}
use Rattle.rv32_text.specs.Names.{fence_set}
use Rattle.asm_words.specs.Tables.{found_below, fence_set_of}
use Rattle.asm_words.proofs.tables.fence_set.Given as goal

abbrev pub invariant-loop-n : goal.invariant-loop-n
invariant-loop-n l = (l.n ≤ 16) × (found_below fence_set l.n l.word ≡ fence_set_of l.word)

abbrev pub decreases-loop-n : goal.decreases-loop-n
decreases-loop-n l = l.n
