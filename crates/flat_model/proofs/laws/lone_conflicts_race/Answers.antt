use Rattle.flat_model.proofs.Ordered.{lone_race}
use Rattle.flat_model.proofs.laws.lone_conflicts_race.Goals as goal

pub returns : goal.returns
returns c = lone_race
