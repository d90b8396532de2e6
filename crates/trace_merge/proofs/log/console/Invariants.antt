use Rattle.std.proofs.Common.{◌≡◌, take}
use Rattle.dash_event.specs.Records.{console_of}
use Rattle.trace_merge.proofs.log.console.Given as goal

abbrev pub invariant-loop-event : goal.invariant-loop-event
invariant-loop-event l = l.console.items ≡ console_of (take l.event-index l.log)
