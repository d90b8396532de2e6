use Rattle.std.proofs.Common.{◌≡◌, ◌++◌, take, flat_map, string_bytes}
use Rattle.std.specs.List.{AllByRecursion}
use Rattle.trace_text.specs.Fits.{FitsEvent}
use Rattle.trace_text.specs.LogText.{event_line}
use Rattle.trace_text.proofs.log.push_events.Given as goal

abbrev pub invariant-loop-event : goal.invariant-loop-event
invariant-loop-event l =
    (string_bytes l.text ≡ string_bytes l.initial.text ++ flat_map event_line (take l.event-index l.log)) × AllByRecursion FitsEvent (take l.event-index l.log)
