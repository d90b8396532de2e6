use Rattle.std.proofs.Common.{◌≡◌, ◌+◌, ◌++◌, ◌∷◌, [], length}
use Rattle.std.specs.List.{repeat}
use Rattle.rv32_asm.proofs.assembly.push_zeros.Given as goal

abbrev pub invariant-loop-i : goal.invariant-loop-i
invariant-loop-i l =
    (l.bytes.items ≡ l.fn.bytes.items ++ repeat l.i (0 ∷ [])) × (length l.bytes.items ≡ length l.fn.bytes.items + l.i)
