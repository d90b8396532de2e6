use Rattle.std.proofs.Common.{◌∷◌, sym, ◌∙◌, ap, subst}
use Rattle.dash_event.specs.Records.{accesses_of, console_of}
use Rattle.std.specs.List.{AllByRecursion}
use Rattle.trace_text.specs.Fits.{FitsEvent}
use Rattle.dash_model.specs.Config.{Config}
use Rattle.dash_run.specs.Report.{console_section, access_section, log_sections}
use Rattle.dash_run.specs.Units.{AreAt}
use Rattle.dash_run.proofs.Runs.{console_is}
use Rattle.dash_run.proofs.Units.{finished_seen}
use Rattle.dash_run.proofs.answer.report_of.Goals as goal

pub returns : goal.returns
unfolding finished_seen
returns g c =
    let w : Config = record { image = c.args.image.now; top = c.args.topology.now } in
    let end = c.requires.end in
    let console = c.in_ok-console_section.ensures
    ∙ ap console_section (c.as_slice-2.ensures.value ∙ c.in_ok-console.ensures ∙ ap console_of c.as_slice.ensures.value ∙ sym (console_is w _ end c.requires.reaches)) in
    let harts = c.in_ok-harts_section.ensures w.image end
    (subst (λ us. AreAt (λ u. u.core) w end us) (sym c.as_slice-3.ensures.value) (record { units = c.requires.units; parts = c.requires.parts })) in
    let accesses = c.in_ok-access_section.ensures ∙ ap (λ l. access_section (accesses_of l)) c.as_slice-4.ensures.value in
    let log = c.in_ok-log_section.ensures.text ∙ ap (log_sections c.args.with_log) c.as_slice-5.ensures.value in
    record {
      cause = c.args.finished.cause;
      run = record { waits = c.args.finished.waits.items; finished = finished_seen _ _ _ _ _ _ _ c.requires };
      is_status = c.status_of-status.ensures;
      is_report = λ i. console i ∷ harts i ∷ accesses i ∷ log i;
      log_fits = λ asked. subst (AllByRecursion FitsEvent) c.as_slice-5.ensures.value (c.in_ok-log_section.ensures.fits asked);
    }
