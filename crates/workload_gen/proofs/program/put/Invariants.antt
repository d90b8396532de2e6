use Rattle.std.proofs.Common.{◌≡◌, ◌++◌, flat_map, map, take}
use Rattle.byteorder.specs.Endian.{little_bytes}
use Rattle.rv32_decode.specs.Layout.{word_of}
use Rattle.workload_gen.proofs.program.put.Given as goal

abbrev pub invariant-loop-instr : goal.invariant-loop-instr
invariant-loop-instr l =
    l.bytes.items ≡ l.fn.bytes.items ++ flat_map (little_bytes 4) (map word_of (take l.instr-index l.instrs))
