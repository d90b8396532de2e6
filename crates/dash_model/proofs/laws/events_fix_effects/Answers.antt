use Rattle.dash_model.proofs.Effects.{after_same, reach_same}
use Rattle.dash_model.proofs.laws.events_fix_effects.Goals as goal

pub returns : goal.returns
returns c = (after_same, reach_same)
