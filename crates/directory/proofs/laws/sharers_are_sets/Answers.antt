use Rattle.directory.proofs.Lawful.{sharers_are_sets}
use Rattle.directory.proofs.laws.sharers_are_sets.Goals as goal

pub returns : goal.returns
returns c = sharers_are_sets
