use Rattle.round_run.specs.Units.{seen, OnlyMet}
use Rattle.round_run.proofs.Eaches.{each_then, met_then}
use Rattle.round_run.proofs.Shown.{pair_met}
use Rattle.round_run.proofs.meets.meet_pair.Goals as goal

pub returns : goal.returns
returns g c = record {
  met = each_then (λ u. seen u.core u.turns u.steps u.ahead) OnlyMet OnlyMet OnlyMet _ _ _ met_then c.meet_lane.ensures.met c.meet_lane-2.ensures.met;
  shown = pair_met (λ u. seen u.core u.turns u.steps u.ahead) _ _ _ c.args.source c.args.target _ _ c.requires.source c.requires.target c.meet_lane.ensures.met c.meet_lane.ensures.lane c.meet_lane-2.ensures.met c.meet_lane-2.ensures.lane;
}
