use Rattle.std.proofs.Common.{◌≡◌, ℕ, ◌<◌, ◌≤◌, length, Some, slice_index_or, refl, ap, ◌∙◌, sym, subst, arith}
use Rattle.cluster_unit.proofs.LawsOffered.{taken_some, taken_at, taken_more, each_more}
use Rattle.round_run.proofs.UnitsBelow.{length_more}
use Rattle.round_run.proofs.machine.Machine.new.Goals as goal

inside : (n m i : ℕ) → m ≡ 16 → i < n → n ≤ 16 → i < m
inside n m i is low few = omega arith

pub loop-cluster-init : goal.loop-cluster-init
loop-cluster-init g c = record {
  count = ap length c.new-chosen.ensures.items;
  chosen = λ n d b low. absurd (grind arith);
  arbiters = refl;
}

pub remove-requires : goal.remove-requires
remove-requires g c =
    let low = inside c.args.topology.now.clusters (length c.args.arbiters.items) c.loop-cluster._cluster (sym c.args.arbiters.ok.0 ∙ c.requires) c.loop-cluster-test.true c.args.topology.now.clusters_in_range.high in
    subst (λ n. 0 < n) (sym c.loop-cluster.arbiters.ok.0) (taken_some c.args.arbiters.items c.loop-cluster.arbiters.items c.loop-cluster._cluster c.loop-cluster.invariant.arbiters low)

pub units-requires : goal.units-requires
units-requires g c =
    let end : c.loop-cluster._cluster ≡ c.args.topology.now.clusters = (let a = c.loop-cluster-test.false in let b = c.loop-cluster.auto._cluster-end in omega arith) in
    c.loop-cluster.invariant.count ∙ end

pub loop-cluster-preserved : goal.loop-cluster-preserved
loop-cluster-preserved g c =
    let i = c.loop-cluster._cluster in
    let so = c.loop-cluster.invariant in
    let low = inside c.args.topology.now.clusters (length c.args.arbiters.items) i (sym c.args.arbiters.ok.0 ∙ c.requires) c.loop-cluster-test.true c.args.topology.now.clusters_in_range.high in record {
      count = length_more c.loop-cluster.chosen.items c.push.new.self.items (Some c.remove.result) i so.count c.in_ok-push.ensures.items;
      chosen = λ n d b below. each_more c.loop-cluster.chosen.items c.push.new.self.items (Some c.remove.result) i (λ n x. (b : _) → x ≡ Some (slice_index_or c.args.arbiters.items n b)) so.count c.in_ok-push.ensures.items
          (λ n d low b. so.chosen n d b low)
          (λ b. ap Some (taken_at c.args.arbiters.items c.loop-cluster.arbiters.items i c.remove.result b so.arbiters low c.remove.ensures.value))
          n d below b;
      arbiters = taken_more c.args.arbiters.items c.loop-cluster.arbiters.items c.remove.new.self.items i so.arbiters low c.remove.ensures.items;
    }

pub returns-clause-choosers : goal.returns-clause-choosers
returns-clause-choosers g c n u b low =
    let end : c.loop-cluster._cluster ≡ c.args.topology.now.clusters = (let a = c.loop-cluster-test.false in let b = c.loop-cluster.auto._cluster-end in omega arith) in
    (c.in_ok-units.ensures.choosers n u (Some b) (subst (λ m. n < m) (sym c.in_ok-units.ensures.of.count) low)).0
    ∙ c.loop-cluster.invariant.chosen n (Some b) b (subst (λ m. n < m) (sym end) low)
