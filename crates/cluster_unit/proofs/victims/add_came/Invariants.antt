use Rattle.std.proofs.Common.{◌+◌, ◌≤◌}
use Rattle.arrayvec.specs.ArrayVec.{array_vec_len}
use Rattle.remote_cache.specs.View.{count}
use Rattle.cluster_unit.specs.Victims.{IsRising, HasCame}
use Rattle.cluster_unit.proofs.victims.add_came.Given as goal

abbrev pub invariant-loop-id : goal.invariant-loop-id
invariant-loop-id l =
    IsRising l.lines.items × (array_vec_len l.lines ≤ array_vec_len l.initial.lines + l.id) × HasCame l.bus l.slots l.hart l.id l.lines.items × (l.id ≤ l.id-end) × (l.id-end ≤ count l.slots)
