use Rattle.dash_run.proofs.Converses.{accepted_status}
use Rattle.dash_run.proofs.Theorem.{whole_run, none_of, report_printed, of_run, has_cause}
use Rattle.dash_run.proofs.Summed.{ends_summed}
use Rattle.dash_run.proofs.Units.{none_seen}
use Rattle.dash_run.proofs.top.dash.Goals as goal

pub returns : goal.returns
returns g c =
    let ends = c.carry_out.ensures.outcome in
    record {
      outcome = ends;
      machine = λ made. whole_run _ _ _ _ _ _ _ _ ends made;
      empty = λ none. let left = none_of _ _ _ _ _ _ _ _ ends none in (none_seen _ _ left.0, left.1);
      printed = λ made. report_printed _ _ _ _ _ _ _ _ ends made;
      order = λ made. of_run _ _ _ _ (λ w run. record { coherent = c.runs_are_coherent.ensures w _ run; releases = c.runs_keep_releases.ensures w _ run }) (whole_run _ _ _ _ _ _ _ _ ends made);
      sequential = λ made. of_run _ _ _ _ (λ w run labelled. c.runs_are_sequential.ensures w _ labelled run) (whole_run _ _ _ _ _ _ _ _ ends made);
      status = has_cause _ _ _ _ _ _ _ _ ends;
      completeness = λ q inputs clean small accepted. accepted_status _ _ _ _ _ _ _ _ q inputs ends clean small accepted;
      summary = λ seed asks. ends_summed _ _ _ _ _ _ _ _ seed ends asks;
    }
