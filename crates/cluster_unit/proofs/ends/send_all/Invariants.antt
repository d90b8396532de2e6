use Rattle.std.proofs.Common.{◌≤◌, take}
use Rattle.cluster_unit.specs.Ends.{Sends}
use Rattle.cluster_unit.proofs.ends.send_all.Given as goal

abbrev pub invariant-loop-sent : goal.invariant-loop-sent
invariant-loop-sent l = Sends l.clusters l.stamp (take l.sent-index l.messages) l.initial.outlets l.outlets × (l.sent-index ≤ l.sent-index-end)
