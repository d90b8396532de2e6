-- A log has one report.
use Rattle.std.proofs.Common.{◌≡◌, ℕ, Bool, List, sym, ◌∙◌, ap, subst}
use Rattle.dash_event.specs.declared.event.Event.{Event}
use Rattle.dash_model.specs.Config.{Config}
use Rattle.dash_model.specs.Machine.{Machine, Reaches}
use Rattle.dash_model.specs.Complete.{IsStatus}
use Rattle.dash_model.specs.MachineLaws.{EventsFixEffects}
use Rattle.round_run.specs.Finished.{status_of}
use Rattle.dash_run.specs.Inputs.{Inputs}
use Rattle.dash_run.specs.Ran.{Ran}
use Rattle.dash_run.specs.Report.{report_of}
use Rattle.dash_run.specs.Accepted.{config_of}
use Rattle.dash_run.specs.Outcome.{IsReported}
use Rattle.dash_run.proofs.Runs.{one_status}
use Rattle.dash_run.proofs.Sources.{one_topology}

pub one_report : EventsFixEffects → (with_log : Bool) (inputs : Inputs) (status status' : ℕ) (texts texts' : List (List ℕ)) (ran ran' : Ran)
    → IsReported with_log inputs status texts ran → IsReported with_log inputs status' texts' ran' → ran.log ≡ ran'.log → (status ≡ status') × (texts ≡ texts')
one_report fixed with_log inputs status status' texts texts' ran ran' a b logs =
    let machine : a.machine ≡ b.machine = one_topology inputs.source a.machine b.machine a.is_machine.topology b.is_machine.topology in
    let config : config_of inputs.image a.machine ≡ config_of inputs.image b.machine = ap (config_of inputs.image) machine in
    let w = config_of inputs.image b.machine in
    let at_machine : Reaches w ran.log a.run.finished.end = subst (λ (v : Config). Reaches v ran.log a.run.finished.end) config a.run.finished.reaches in
    let at_log : Reaches w ran'.log a.run.finished.end = subst (λ (l : List Event). Reaches w l a.run.finished.end) logs at_machine in
    let ends : a.run.finished.end ≡ b.run.finished.end = fixed.1 w ran'.log a.run.finished.end b.run.finished.end at_log b.run.finished.reaches in
    let status_at : IsStatus w a.run.finished.end (status_of a.cause) = subst (λ (v : Config). IsStatus v a.run.finished.end (status_of a.cause)) config a.run.finished.status in
    let status_there : IsStatus w b.run.finished.end (status_of a.cause) = subst (λ (m : Machine). IsStatus w m (status_of a.cause)) ends status_at in
    let same : status ≡ status' = a.is_status ∙ one_status w b.run.finished.end (status_of a.cause) (status_of b.cause) status_there b.run.finished.status ∙ sym b.is_status in (
      same,
      a.is_report ∙ (λ i. report_of with_log (config i) (ends i) (same i) (logs i)) ∙ sym b.is_report,
    )
