use Rattle.std.proofs.Common.{◌≡◌, ◌++◌, List}
use Rattle.toml.proofs.Views.{Entry}
use Rattle.topology.proofs.LeastName.{AllKnown}
use Rattle.topology.proofs.members.first_unknown.Given as goal

abbrev pub invariant-loop-name : goal.invariant-loop-name
invariant-loop-name l =
    (done : List Entry) × (l.fn.table.entries ≡ done ++ l.name-iterator) × AllKnown done
