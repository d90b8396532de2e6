use Rattle.std.proofs.Common.{ℕ, List, IfOk, IfErr, subst}
use Rattle.rv32_asm.specs.Assembled.{IsAssembledBy, IsRefusedBy}
use Rattle.rv32_asm.specs.Causes.{Definitions}
use Rattle.rv32_asm.specs.Labels.{definitions}
use Rattle.rv32_asm.specs.Tree.{in_tree}
use Rattle.rv32_asm.proofs.Walk.{same_labels}
use Rattle.rv32_asm.proofs.assembler.assemble.Goals as goal

pub returns-clause-ok : goal.returns-clause-ok
returns-clause-ok c =
    subst (λ (s : List ℕ). IfOk c.build.result (IsAssembledBy (definitions s) s)) c.as_bytes-bytes.ensures.value
    (subst (λ (d : Definitions). IfOk c.build.result (IsAssembledBy d c.as_bytes-bytes.result.now))
    (same_labels (in_tree c.in_ok-labels.labels.map) (definitions c.as_bytes-bytes.result.now) c.in_ok-labels.ensures) c.build.ensures.ok)

pub returns-clause-refused : goal.returns-clause-refused
returns-clause-refused c =
    subst (λ (s : List ℕ). IfErr c.build.result (IsRefusedBy (definitions s) s)) c.as_bytes-bytes.ensures.value
    (subst (λ (d : Definitions). IfErr c.build.result (IsRefusedBy d c.as_bytes-bytes.result.now))
    (same_labels (in_tree c.in_ok-labels.labels.map) (definitions c.as_bytes-bytes.result.now) c.in_ok-labels.ensures) c.build.ensures.refused)
