use Rattle.std.proofs.Common.{◌≡◌, slice_set, subst, arith}
use Rattle.round_run.specs.Units.{seen, IsMet}
use Rattle.round_run.proofs.MetUnits.{only_both, met_self}
use Rattle.round_run.proofs.meets.meet_lane.Goals as goal

pub returns-else-target-source : goal.returns-else-target-source
returns-else-target-source g c =
    let same : c.args.source ≡ c.args.target = (let a = c.if-source-target.false in let b = c.if-target-source.false in omega arith) in
    let met = c.meet_self.ensures in
    let all = met_self (λ u. seen u.core u.turns u.steps u.ahead) c.args.topology.now c.args.units.now c.args.source c.index-units-source.result c.meet_self.new.self c.args.class c.meet_self.result c.requires.source c.requires.mesh
    (only_both _ _ met.outlets met.inlets met.same met.counts.0 met.counts.1 met.counts.2) met.met in
    record { met = all.0; lane = subst (λ n. IsMet (λ u. seen u.core u.turns u.steps u.ahead) c.args.class c.meet_self.result c.args.source n (slice_set c.args.units.now c.args.source c.meet_self.new.self)) same all.1 }
