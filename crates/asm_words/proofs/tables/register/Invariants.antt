use Rattle.std.proofs.Common.{◌≡◌, ◌≤◌}
use Rattle.rv32_text.specs.Names.{register}
use Rattle.asm_words.specs.Tables.{found_below, register_of}
use Rattle.asm_words.proofs.tables.register.Given as goal

abbrev pub invariant-loop-n : goal.invariant-loop-n
invariant-loop-n l = (l.n ≤ 32) × (found_below register l.n l.word ≡ register_of l.word)

abbrev pub decreases-loop-n : goal.decreases-loop-n
decreases-loop-n l = l.n
