-- Some of the spool's first parcels are in the ring.
use Rattle.std.proofs.Common.{length}
use Rattle.mesh_lanes.proofs.Spool.{IsFlushing}
use Rattle.mesh_lanes.proofs.outlet.Outlet.flush.Given as goal

abbrev pub invariant-loop-self : goal.invariant-loop-self
invariant-loop-self l = IsFlushing l.initial.self l.self

abbrev pub decreases-loop-self : goal.decreases-loop-self
decreases-loop-self l = length l.self.spool
