use Rattle.rv32_asm.specs.Tree.{in_tree}
use Rattle.rv32_asm.proofs.Walk.{Collects, room}
use Rattle.rv32_asm.proofs.labels.Labels.collect.Given as goal

abbrev pub invariant-loop-rest : goal.invariant-loop-rest
invariant-loop-rest l = Collects l.source (in_tree l.labels.map) l.place l.line l.rest

abbrev pub decreases-loop-rest : goal.decreases-loop-rest
decreases-loop-rest l = room l.rest
