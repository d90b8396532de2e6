use Rattle.std.proofs.Common.{◌≡◌, ◌≤◌, length, take}
use Rattle.dash_event.specs.Records.{accesses_of}
use Rattle.dash_run.proofs.access_text.count_accesses.Given as goal

abbrev pub invariant-loop-event : goal.invariant-loop-event
invariant-loop-event l = (l.count ≡ length (accesses_of (take l.event-index l.log))) × (l.count ≤ l.event-index)
