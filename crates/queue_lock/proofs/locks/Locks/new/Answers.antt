use Rattle.std.proofs.Common.{◌≤◌, ◌*◌, refl, sym, subst, arith}
use Rattle.std.proofs.Math.Nat.{mul-le-mul_right}
use Rattle.queue_lock.specs.Kept.{AreKept}
use Rattle.queue_lock.proofs.AtStart.{kept_at_start, opening_at}
use Rattle.queue_lock.proofs.locks.Locks.new.Goals as goal

pub invariant_of-result : goal.invariant_of-result
invariant_of-result c =
    let top = c.args.topology.now in
    let most : top.clusters * top.harts ≤ 16 * top.harts = mul-le-mul_right top.harts top.clusters_in_range.high in
    let few : top.clusters * top.harts ≤ 64 = omega (arith, most, top.harts_in_range.high) in
    subst (λ t. AreKept c.args.cluster.0 top.clusters top.locks t c.in_ok-words.words.items 0) (sym c.hart_count.ensures)
    (kept_at_start _ _ _ _ _ c.in_ok-words.ensures.all c.in_ok-words.ensures.each few)

pub returns : goal.returns
returns c = record {
  cluster_is = refl;
  clusters_is = refl;
  locks_is = refl;
  harts_is = c.hart_count.ensures;
  words_are = opening_at _ _ _ (c.args.topology.now.clusters * c.args.topology.now.harts) _ c.in_ok-words.ensures.all c.in_ok-words.ensures.each;
}
