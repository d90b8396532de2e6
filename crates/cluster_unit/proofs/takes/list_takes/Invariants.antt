use Rattle.std.proofs.Common.{◌≡◌, ◌+◌, ◌*◌, ◌≤◌, ◌++◌, length, vec_capacity}
use Rattle.cluster_unit.specs.Ends.{Looked}
use Rattle.cluster_unit.specs.Takes.{takes_of}
use Rattle.cluster_unit.proofs.takes.list_takes.Given as goal

abbrev pub invariant-loop-from : goal.invariant-loop-from
invariant-loop-from l =
    Looked l.initial.inlets l.inlets × (l.choices.items ≡ l.initial.choices.items ++ takes_of l.inlets l.from)
    × (vec_capacity l.choices ≡ vec_capacity l.initial.choices) × (l.from ≤ l.clusters) × (length l.choices.items ≤ length l.initial.choices.items + 2 * l.from)
