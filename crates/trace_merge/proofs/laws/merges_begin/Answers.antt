use Rattle.trace_merge.proofs.SettledStays.{merges_begin}
use Rattle.trace_merge.proofs.laws.merges_begin.Goals as goal

pub returns : goal.returns
returns c = merges_begin
