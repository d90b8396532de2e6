use Rattle.std.proofs.Common.{List, sym, subst, ℕ}
use Rattle.dash_event.specs.declared.event.Event.{Event}
use Rattle.workload_gen.specs.Program.{image_of}
use Rattle.workload_runs.specs.Runs.{AreRetired, IsWorkloadRun, workload}
use Rattle.dash_run.specs.Units.{AreAt}
use Rattle.dash_run.proofs.Workloads.{are_retired, generated, workload_run}
use Rattle.dash_run.proofs.generated.summed_up.Goals as goal

pub returns : goal.returns
returns g c =
    let seed = c.args.seed in
    let t = c.args.topology.now in
    let f = c.requires.finished in
    let end = f.end in
    let run = workload_run _ seed t _ _ _ _ _ c.ranges.seed.fits c.requires.machine f in
    let at = subst (λ us. AreAt (λ u. u.core) (workload seed t) end us) (sym c.as_slice.ensures.value) (record { units = f.units; parts = f.parts }) in
    let retired = are_retired seed t end c.in_ok-retired.retired.items c.requires.machine c.in_ok-retired.ensures.count (c.in_ok-retired.ensures.each (image_of seed) end at) in
    let text = c.in_ok-text.ensures.whole t end (subst (λ (l : List Event). IsWorkloadRun seed t l end) (sym c.as_slice-3.ensures.value) run)
    (subst (λ (rs : List ℕ). AreRetired (workload seed t) end rs) (sym c.as_slice-2.ensures.value) retired) in
    generated _ seed t _ _ _ _ _ c.ranges.seed.fits c.requires.machine f c.in_ok-text.text.items c.statuses_are_zero.ensures text
