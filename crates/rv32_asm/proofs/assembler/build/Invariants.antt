use Rattle.rv32_asm.specs.Tree.{in_tree}
use Rattle.rv32_asm.proofs.Building.{Builds}
use Rattle.rv32_asm.proofs.Walk.{room}
use Rattle.rv32_asm.proofs.assembler.build.Given as goal

abbrev pub invariant-loop-rest : goal.invariant-loop-rest
invariant-loop-rest l = Builds (in_tree l.labels.map) l.source l.assembly l.here l.rest

abbrev pub decreases-loop-rest : goal.decreases-loop-rest
decreases-loop-rest l = room l.rest
