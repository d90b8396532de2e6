use Rattle.std.proofs.Common.{◌≡◌, take}
use Rattle.asm_words.specs.Numbers.{decimal_value}
use Rattle.asm_words.proofs.numbers.decimal_value.Given as goal

abbrev pub invariant-loop-c : goal.invariant-loop-c
invariant-loop-c l = l.value ≡ decimal_value (take l.c-index l.digits)
