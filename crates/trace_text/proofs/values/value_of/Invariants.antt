use Rattle.std.proofs.Common.{◌≡◌, take}
use Rattle.trace_text.specs.Values.{value_of}
use Rattle.trace_text.proofs.values.value_of.Given as goal

abbrev pub invariant-loop-byte : goal.invariant-loop-byte
invariant-loop-byte l = l.value ≡ value_of l.radix (take l.byte-index l.word)
