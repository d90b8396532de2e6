-- The text of one more hart.
use Rattle.std.proofs.Common.{◌≡◌, ℕ, ◌+◌, List, ◌++◌, sym, ◌∙◌, ap, append_assoc, add-one}
use Rattle.dash_base.specs.declared.topology.Topology.{Topology}
use Rattle.hart_core.specs.HartState.{HartState}
use Rattle.dash_run.specs.Report.{hart_text, harts_text}

-- what has been printed, after one more hart
pub harts_text-pushed : (t : Topology) (hart : ℕ → HartState) (i : ℕ) (h : HartState) (init old new : List ℕ) → h ≡ hart i
    → old ≡ init ++ harts_text t hart i → new ≡ old ++ hart_text t i h → new ≡ init ++ harts_text t hart (i + 1)
harts_text-pushed t hart i h init old new at before pushed =
    pushed
    ∙ ap (λ xs. xs ++ hart_text t i h) before
    ∙ append_assoc init (harts_text t hart i) (hart_text t i h)
    ∙ ap (λ x. init ++ (harts_text t hart i ++ hart_text t i x)) at
    ∙ ap (λ n. init ++ harts_text t hart n) (sym (add-one i))
