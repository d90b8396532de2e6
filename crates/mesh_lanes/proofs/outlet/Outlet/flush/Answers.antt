-- One parcel more is in the ring.
use Rattle.std.proofs.Common.{◌≡◌, refl, sym, ap, ◌∙◌, ◌+◌, ◌-◌, drop, subst}
use Rattle.mesh_lanes.specs.View.{OutletView}
use Rattle.mesh_lanes.proofs.Spool.{IsFlushing, one_more}
use Rattle.mesh_lanes.proofs.outlet.Outlet.flush.Goals as goal

pub loop-self-preserved : goal.loop-self-preserved
loop-self-preserved c =
    let v = c.loop-self.self in
    let test = c.loop-self-test.ensures in
    let found = test.yes refl in
    let is : c.move_first.new.self ≡ record v { spool = drop 1 v.spool; free = c.has_move.new.self.free - 1; spare = v.spare + 1 } =
    c.move_first.ensures ∙ ap (λ (u : OutletView). record u { spool = drop 1 u.spool; free = u.free - 1; spare = u.spare + 1 }) test.looked in
    subst (λ w. IsFlushing c.args.self.now w) (sym is) (one_more _ v _ test.room found.0 found.1 c.loop-self.invariant)
