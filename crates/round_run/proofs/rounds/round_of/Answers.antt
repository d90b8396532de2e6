use Rattle.std.proofs.Common.{◌<◌, ◌≤◌, sym, ◌∙◌, subst}
use Rattle.round_run.specs.Units.{seen}
use Rattle.round_run.proofs.Eaches.{mesh_stays}
use Rattle.round_run.proofs.RoundsCounted.{settled_same, worked_same, counts_stay, round_same, round_counted, first_low, ok_if}
use Rattle.round_run.proofs.rounds.round_of.Goals as goal

pub work_all-requires : goal.work_all-requires
work_all-requires g c =
    let t = c.args.topology.now in
    let count = c.reserve_all.ensures.counts.count ∙ c.requires.mesh.count in (
      c.type_bounds.sync-R,
      (c.type_bounds.sync-G, (subst (λ n. 0 < n) (sym count) t.clusters_in_range.low, (subst (λ n. n ≤ 16) (sym count) t.clusters_in_range.high, c.in_ok-reserve_all.ensures.reserved))),
    )

pub settle-requires : goal.settle-requires
settle-requires g c = record { mesh = mesh_stays (λ u. seen u.core u.turns u.steps u.ahead) _ _ _ (worked_same (λ u. seen u.core u.turns u.steps u.ahead) _ _ _ c.reserve_all.ensures.counts c.work_all.ensures) c.requires.mesh }

pub serial_turn-requires : goal.serial_turn-requires
serial_turn-requires g c = record {
  first = first_low c.args.rounds c.from.result c.args.topology.now (c.from.ensures ∙ c.hart_count.ensures);
  mesh = mesh_stays (λ u. seen u.core u.turns u.steps u.ahead) _ _ _ (settled_same (λ u. seen u.core u.turns u.steps u.ahead) _ _ _ _ c.reserve_all.ensures.counts c.work_all.ensures c.settle.ensures.counts) c.requires.mesh;
  emptied = c.in_ok-settle.ensures.emptied;
  granted = c.in_ok-settle.ensures.granted;
}

pub returns-in_err-reserve_all-clause-same : goal.returns-in_err-reserve_all-clause-same
returns-in_err-reserve_all-clause-same g c = counts_stay (λ u. seen u.core u.turns u.steps u.ahead) _ _ c.reserve_all.ensures.counts

pub returns-in_err-check_stamps-clause-same : goal.returns-in_err-check_stamps-clause-same
returns-in_err-check_stamps-clause-same g c = worked_same (λ u. seen u.core u.turns u.steps u.ahead) _ _ _ c.reserve_all.ensures.counts c.work_all.ensures

pub returns-in_err-settle-clause-same : goal.returns-in_err-settle-clause-same
returns-in_err-settle-clause-same g c = settled_same (λ u. seen u.core u.turns u.steps u.ahead) _ _ _ _ c.reserve_all.ensures.counts c.work_all.ensures c.settle.ensures.counts

pub returns-clause-same : goal.returns-clause-same
returns-clause-same g c = round_same (λ u. seen u.core u.turns u.steps u.ahead) _ _ _ _ _ _ c.reserve_all.ensures.counts c.work_all.ensures c.settle.ensures.counts c.serial_turn.ensures.steps

pub returns-clause-counted : goal.returns-clause-counted
returns-clause-counted g c = ok_if c.serial_turn.result (round_counted (λ u. seen u.core u.turns u.steps u.ahead) c.args.topology.now c.args.rounds _ _ _ _ _ c.requires.mesh c.requires.counted c.reserve_all.ensures.counts c.work_all.ensures c.settle.ensures.counts c.serial_turn.ensures.steps)
