use Rattle.flat_model.proofs.Exclusion.{locks_exclude}
use Rattle.flat_model.proofs.laws.locks_exclude.Goals as goal

pub returns : goal.returns
returns c = locks_exclude
