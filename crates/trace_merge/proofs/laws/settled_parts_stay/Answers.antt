use Rattle.trace_merge.proofs.SettledStays.{settled_parts_stay}
use Rattle.trace_merge.proofs.laws.settled_parts_stay.Goals as goal

pub returns : goal.returns
returns c = settled_parts_stay
