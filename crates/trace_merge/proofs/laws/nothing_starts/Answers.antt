use Rattle.trace_merge.proofs.SettledStays.{nothing_starts}
use Rattle.trace_merge.proofs.laws.nothing_starts.Goals as goal

pub returns : goal.returns
returns c = nothing_starts
