use Rattle.round_run.specs.Units.{seen}
use Rattle.round_run.specs.Weight.{IsEased}
use Rattle.round_run.proofs.Eaches.{each_again, each_then}
use Rattle.round_run.proofs.Weights.{eased_again, eased_then, eased_met, met_eased_counts, mesh_counted, pass_falls, rested_emptied, rested_grants}
use Rattle.round_run.proofs.settle.settle.Goals as goal

pub loop-units-init : goal.loop-units-init
loop-units-init g c = (each_again (λ u. seen u.core u.turns u.steps u.ahead) IsEased _ eased_again, c.meet_all.ensures.shown)

pub loop-units-preserved : goal.loop-units-preserved
loop-units-preserved g c = (
  each_then (λ u. seen u.core u.turns u.steps u.ahead) IsEased IsEased IsEased _ _ _ eased_then c.loop-units.invariant.0 (eased_met (λ u. seen u.core u.turns u.steps u.ahead) _ _ _ c.settle_each.ensures.eased c.meet_all-in-loop-units.ensures.met),
  c.meet_all-in-loop-units.ensures.shown,
)

pub loop-units-smaller : goal.loop-units-smaller
loop-units-smaller g c =
    let counts = met_eased_counts (λ u. seen u.core u.turns u.steps u.ahead) _ _ _ c.meet_all.ensures.met c.loop-units.invariant.0 in
    let mesh = mesh_counted (λ u. seen u.core u.turns u.steps u.ahead) c.args.topology.now _ _ counts c.requires.mesh in
    pass_falls (λ u. seen u.core u.turns u.steps u.ahead) c.args.topology.now c.loop-units.units c.settle_each.new.units c.meet_all-in-loop-units.new.units mesh c.loop-units.invariant.1
    c.settle_each.ensures.eased (c.in_ok-settle_each.ensures.settled.did c.if-not-branch.true) c.meet_all-in-loop-units.ensures.met c.meet_all-in-loop-units.ensures.shown

pub returns-clause-counts : goal.returns-clause-counts
returns-clause-counts g c = met_eased_counts (λ u. seen u.core u.turns u.steps u.ahead) _ _ _ c.meet_all.ensures.met (each_then (λ u. seen u.core u.turns u.steps u.ahead) IsEased IsEased IsEased _ _ _ eased_then c.loop-units.invariant.0 c.settle_each.ensures.eased)

pub returns-clause-emptied : goal.returns-clause-emptied
returns-clause-emptied g c =
    let counts = met_eased_counts (λ u. seen u.core u.turns u.steps u.ahead) _ _ _ c.meet_all.ensures.met c.loop-units.invariant.0 in
    let mesh = mesh_counted (λ u. seen u.core u.turns u.steps u.ahead) c.args.topology.now _ _ counts c.requires.mesh in
    rested_emptied (λ u. seen u.core u.turns u.steps u.ahead) c.args.topology.now c.loop-units.units c.settle_each.new.units mesh c.loop-units.invariant.1 (c.in_ok-settle_each.ensures.settled.rest c.if-not-branch.false)

pub returns-clause-granted : goal.returns-clause-granted
returns-clause-granted g c = rested_grants (λ u. seen u.core u.turns u.steps u.ahead) c.loop-units.units c.settle_each.new.units (c.in_ok-settle_each.ensures.settled.rest c.if-not-branch.false)

pub meet_all-requires-in-loop-units : goal.meet_all-requires-in-loop-units
meet_all-requires-in-loop-units g c =
    record { mesh = mesh_counted (λ u. seen u.core u.turns u.steps u.ahead) c.args.topology.now _ _ (met_eased_counts (λ u. seen u.core u.turns u.steps u.ahead) _ _ _ c.meet_all.ensures.met (each_then (λ u. seen u.core u.turns u.steps u.ahead) IsEased IsEased IsEased _ _ _ eased_then c.loop-units.invariant.0 c.settle_each.ensures.eased)) c.requires.mesh }

pub returns-in_err-settle_each-clause-counts : goal.returns-in_err-settle_each-clause-counts
returns-in_err-settle_each-clause-counts g c = met_eased_counts (λ u. seen u.core u.turns u.steps u.ahead) _ _ _ c.meet_all.ensures.met (each_then (λ u. seen u.core u.turns u.steps u.ahead) IsEased IsEased IsEased _ _ _ eased_then c.loop-units.invariant.0 c.settle_each.ensures.eased)
