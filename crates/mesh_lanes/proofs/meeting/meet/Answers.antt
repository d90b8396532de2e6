use Rattle.std.proofs.Common.{◌++◌, sym, ap, subst}
use mathlib.Core.List.{IsPrefix}
use Rattle.rtrb.specs.Ring.{known_items}
use Rattle.mesh_lanes.specs.View.{InletView}
use Rattle.mesh_lanes.proofs.Known.{prefix_then}
use Rattle.mesh_lanes.proofs.meeting.meet.Goals as goal

pub returns-clause-known : goal.returns-clause-known
returns-clause-known c =
    subst (λ ks. IsPrefix ks (known_items c.slots_beside-in_ring.new.self)) (ap (λ (i : InletView). i.known) c.inlet.view_is)
    (prefix_then (known_items c.inlet.inside.ring) (known_items c.slots_beside.new.consumer) (known_items c.slots_beside-in_ring.new.self) c.slots_beside.ensures.consumer.2 c.slots_beside-in_ring.ensures.looked.2)
