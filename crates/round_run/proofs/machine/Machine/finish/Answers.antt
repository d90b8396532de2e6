use Rattle.std.proofs.Common.{length, sym, subst}
use Rattle.dash_model.specs.LocalRun.{IsMergeOf}
use Rattle.trace_merge.specs.MergedLogs.{log_of, AreLogs}
use Rattle.round_run.specs.Units.{seen}
use Rattle.round_run.specs.Stamps.{AreBelow}
use Rattle.round_run.specs.Ending.{IsCause, TellsAsked}
use Rattle.round_run.proofs.LogEnds.{HaveRun, logs_of, are_logs}
use Rattle.round_run.proofs.Endings.{finished}
use Rattle.round_run.proofs.machine.Machine.finish.Goals as goal

pub merge-requires : goal.merge-requires
merge-requires g c =
    let below = subst (λ l. AreBelow (λ u. seen u.core u.turns u.steps u.ahead) l) c.deref.ensures.value c.in_ok-check_stamps.ensures in
    let runs = subst (λ l. HaveRun (λ u. seen u.core u.turns u.steps u.ahead) l) c.deref-2.ensures.value c.all_have_run.ensures in
    subst (λ l. AreLogs (logs_of (λ u. seen u.core u.turns u.steps u.ahead) l)) (sym c.as_slice.ensures.value)
    (are_logs (λ u. seen u.core u.turns u.steps u.ahead) c.args.self.units.items runs c.args.self.mesh.cluster below)

pub returns : goal.returns
returns g c w of =
    let below = subst (λ l. AreBelow (λ u. seen u.core u.turns u.steps u.ahead) l) c.deref.ensures.value c.in_ok-check_stamps.ensures in
    let runs = subst (λ l. HaveRun (λ u. seen u.core u.turns u.steps u.ahead) l) c.deref-2.ensures.value c.all_have_run.ensures in
    let is_cause = subst (λ l. IsCause (λ u. seen u.core u.turns u.steps u.ahead) c.args.self.topology l c.cause-cause.result) c.deref-3.ensures.value c.cause-cause.ensures in
    let tells = subst (λ l. TellsAsked (λ u. seen u.core u.turns u.steps u.ahead) c.args.self.topology l c.in_ok-waits.waits.items) c.deref-4.ensures.value c.in_ok-waits.ensures in
    let merged = subst (λ l. IsMergeOf (length l) (log_of (logs_of (λ u. seen u.core u.turns u.steps u.ahead) l)) c.in_ok-log.log.items) c.as_slice.ensures.value c.in_ok-log.ensures in
    finished (λ u. seen u.core u.turns u.steps u.ahead) w c.args.self.topology c.args.self.units.items c.in_ok-log.log.items c.args.self.rounds c.in_ok-waits.waits.items c.cause-cause.result
    c.merged_logs_are_runs.ensures c.messages_are_in_range.ensures c.runs_keep_locks.ensures
    (record {
      mesh = c.args.self.mesh;
      some = c.requires.some;
      emptied = c.requires.emptied;
      granted = c.requires.granted;
      over = c.requires.over;
      below = below;
      runs = runs;
      sources = λ n d low. (runs n d low).sources;
      is_cause = is_cause;
      tells = tells;
      counted = c.args.self.counted;
    })
    merged of
