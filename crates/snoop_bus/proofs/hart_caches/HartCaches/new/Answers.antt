use Rattle.std.proofs.Common.{◌≡◌, length, arith}
use Rattle.snoop_bus.proofs.Marked.{caches_of-empty, marks-empty}
use Rattle.snoop_bus.proofs.hart_caches.HartCaches.new.Goals as goal

pub invariant_of-result : goal.invariant_of-result
invariant_of-result c =
    let long : length c.in_ok-owned.owned.items ≡ c.args.l2 = omega (arith, c.in_ok-owned.ensures.len) in
    rw c.in_ok-levels.ensures (marks-empty c.in_ok-owned.owned.items c.args.l1 c.args.l2 c.requires.l2_some long)

pub returns : goal.returns
returns c = rw c.in_ok-levels.ensures (caches_of-empty c.in_ok-owned.owned.items c.args.l1 c.args.l2)
