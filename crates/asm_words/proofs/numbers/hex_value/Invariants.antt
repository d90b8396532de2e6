use Rattle.std.proofs.Common.{◌≡◌, take}
use Rattle.asm_words.specs.Numbers.{hex_value}
use Rattle.asm_words.proofs.numbers.hex_value.Given as goal

abbrev pub invariant-loop-c : goal.invariant-loop-c
invariant-loop-c l = l.value ≡ hex_value (take l.c-index l.digits)
