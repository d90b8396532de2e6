use Rattle.std.proofs.Common.{◌≡◌, ◌++◌, slice_index, string_bytes}
use Rattle.workload_gen.specs.Summary.{counter_lines}
use Rattle.workload_gen.proofs.summary_text.push_counter_lines.Given as goal

abbrev pub invariant-loop-number : goal.invariant-loop-number
invariant-loop-number l =
    string_bytes l.text ≡ string_bytes l.initial.text ++ counter_lines (slice_index l.counters) l.number
