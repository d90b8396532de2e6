use Rattle.std.proofs.Common.{map, take}
use Rattle.flat_model.specs.Represents.{IsSized}
use Rattle.flat_model.specs.FlatEnd.{IsReached}
use Rattle.flat_model.proofs.driven.flat_run.Given as goal

-- the harts so far have had their turns
abbrev pub invariant-turns : goal.invariant-turns
invariant-turns l = record {
  reached : IsReached l.image l.topology (map (λ h. h.0) (take l.hart-index l.order)) l.machine l.accesses.items l.console.items;
  sized : IsSized l.topology l.machine;
}
