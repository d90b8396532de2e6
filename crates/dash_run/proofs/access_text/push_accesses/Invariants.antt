use Rattle.std.proofs.Common.{◌≡◌, ◌++◌, take, flat_map, string_bytes}
use Rattle.dash_event.specs.Records.{accesses_of}
use Rattle.dash_run.specs.Report.{access_line}
use Rattle.dash_run.proofs.access_text.push_accesses.Given as goal

abbrev pub invariant-loop-event : goal.invariant-loop-event
invariant-loop-event l = string_bytes l.text ≡ string_bytes l.initial.text ++ flat_map access_line (accesses_of (take l.event-index l.log))
