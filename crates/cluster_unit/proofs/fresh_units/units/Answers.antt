use Rattle.std.proofs.Common.{◌≡◌, ◌*◌, ◌<◌, length, slice_index_or, refl, sym, ap, ◌∙◌, subst, arith}
use Rattle.cluster_unit.specs.View.{CoreView}
use Rattle.cluster_unit.specs.Fresh.{AreUnsent, AreUntaken}
use Rattle.cluster_unit.proofs.FreshUnits.{IsStarted, taken_some, taken_is, taken_at, taken_more, each_more, started_of, started_unused, started_wired}
use Rattle.cluster_unit.proofs.fresh_units.units.Goals as goal

pub loop-cluster-init : goal.loop-cluster-init
loop-cluster-init g c = record {
  count = ap length c.new-units.ensures.items;
  started = λ n d low. absurd (grind arith);
  choosers = λ n d low. absurd (grind arith);
  counts = λ n d low. absurd (grind arith);
  outlets = refl;
  inlets = refl;
  arbiters = refl;
}

pub remove-outlets-requires : goal.remove-outlets-requires
remove-outlets-requires g c =
    subst (λ n. 0 < n) (sym c.loop-cluster.lanes.outlets.ok.0)
    (taken_some c.in_ok-lanes.lanes.outlets.items c.loop-cluster.lanes.outlets.items c.loop-cluster.cluster c.loop-cluster.invariant.outlets (subst (λ n. c.loop-cluster.cluster < n) (sym c.in_ok-lanes.ensures.senders) c.loop-cluster-test.true))

pub remove-inlets-requires : goal.remove-inlets-requires
remove-inlets-requires g c =
    subst (λ n. 0 < n) (sym c.loop-cluster.lanes.inlets.ok.0)
    (taken_some c.in_ok-lanes.lanes.inlets.items c.loop-cluster.lanes.inlets.items c.loop-cluster.cluster c.loop-cluster.invariant.inlets (subst (λ n. c.loop-cluster.cluster < n) (sym c.in_ok-lanes.ensures.receivers) c.loop-cluster-test.true))

pub remove-requires : goal.remove-requires
remove-requires g c =
    subst (λ n. 0 < n) (sym c.loop-cluster.arbiters.ok.0)
    (taken_some c.args.arbiters.items c.loop-cluster.arbiters.items c.loop-cluster.cluster c.loop-cluster.invariant.arbiters (subst (λ n. c.loop-cluster.cluster < n) (sym c.requires) c.loop-cluster-test.true))

pub new-requires-in-loop-cluster-clause-outlets : goal.new-requires-in-loop-cluster-clause-outlets
new-requires-in-loop-cluster-clause-outlets g c =
    let at = taken_is c.in_ok-lanes.lanes.outlets.items c.loop-cluster.lanes.outlets.items c.loop-cluster.cluster c.remove-outlets.result c.loop-cluster.invariant.outlets c.remove-outlets.ensures.value in
    (subst (λ v. AreUnsent (2 * c.args.topology.now.clusters) v.items) at (c.in_ok-lanes.ensures.unsent c.loop-cluster.cluster c.remove-outlets.result c.loop-cluster-test.true)).count

pub new-requires-in-loop-cluster-clause-inlets : goal.new-requires-in-loop-cluster-clause-inlets
new-requires-in-loop-cluster-clause-inlets g c =
    let at = taken_is c.in_ok-lanes.lanes.inlets.items c.loop-cluster.lanes.inlets.items c.loop-cluster.cluster c.remove-inlets.result c.loop-cluster.invariant.inlets c.remove-inlets.ensures.value in
    (subst (λ v. AreUntaken (2 * c.args.topology.now.clusters) v.items) at (c.in_ok-lanes.ensures.untaken c.loop-cluster.cluster c.remove-inlets.result c.loop-cluster-test.true)).count

pub new-requires-in-loop-cluster-clause-unsent : goal.new-requires-in-loop-cluster-clause-unsent
new-requires-in-loop-cluster-clause-unsent g c j x low =
    let at = taken_is c.in_ok-lanes.lanes.outlets.items c.loop-cluster.lanes.outlets.items c.loop-cluster.cluster c.remove-outlets.result c.loop-cluster.invariant.outlets c.remove-outlets.ensures.value in
    let fresh : AreUnsent (2 * c.args.topology.now.clusters) c.remove-outlets.result.items = subst (λ v. AreUnsent (2 * c.args.topology.now.clusters) v.items) at (c.in_ok-lanes.ensures.unsent c.loop-cluster.cluster c.remove-outlets.result c.loop-cluster-test.true) in
    fresh.unsent j x (subst (λ n. j < n) fresh.count low)

pub new-requires-in-loop-cluster-clause-untaken : goal.new-requires-in-loop-cluster-clause-untaken
new-requires-in-loop-cluster-clause-untaken g c j y low =
    let at = taken_is c.in_ok-lanes.lanes.inlets.items c.loop-cluster.lanes.inlets.items c.loop-cluster.cluster c.remove-inlets.result c.loop-cluster.invariant.inlets c.remove-inlets.ensures.value in
    let fresh : AreUntaken (2 * c.args.topology.now.clusters) c.remove-inlets.result.items = subst (λ v. AreUntaken (2 * c.args.topology.now.clusters) v.items) at (c.in_ok-lanes.ensures.untaken c.loop-cluster.cluster c.remove-inlets.result c.loop-cluster-test.true) in
    fresh.untaken j y (subst (λ n. j < n) fresh.count low)

pub loop-cluster-preserved : goal.loop-cluster-preserved
loop-cluster-preserved g c =
    let i = c.loop-cluster.cluster in
    let us = c.loop-cluster.units.items in
    let more = c.push.new.self.items in
    let u = c.in_ok-unit.unit in
    let so = c.loop-cluster.invariant in
    record {
      count = ap length c.in_ok-push.ensures.items ∙ (let n = so.count in grind arith);
      started = each_more us more u i (λ n x. IsStarted (λ v. v.items) (λ v. v.items) (record { image = c.args.image.now; top = c.args.topology.now }) c.in_ok-lanes.lanes.outlets.items c.in_ok-lanes.lanes.inlets.items n x.core) so.count c.in_ok-push.ensures.items so.started
          (record {
            config = ap (λ (a : CoreView). a.config) c.in_ok-unit.ensures.core ∙ ap (λ m. record { image = m; top = c.args.topology.now }) c.in_ok-copy.ensures;
            cluster = ap (λ (a : CoreView). a.cluster) c.in_ok-unit.ensures.core;
            log = ap (λ (a : CoreView). a.log) c.in_ok-unit.ensures.core;
            outlets = λ d. ap (λ (a : CoreView). a.outlets) c.in_ok-unit.ensures.core ∙ ap (λ v. v.items) (taken_at c.in_ok-lanes.lanes.outlets.items c.loop-cluster.lanes.outlets.items i c.remove-outlets.result d so.outlets (subst (λ n. i < n) (sym c.in_ok-lanes.ensures.senders) c.loop-cluster-test.true) c.remove-outlets.ensures.value);
            inlets = λ e. ap (λ (a : CoreView). a.inlets) c.in_ok-unit.ensures.core ∙ ap (λ v. v.items) (taken_at c.in_ok-lanes.lanes.inlets.items c.loop-cluster.lanes.inlets.items i c.remove-inlets.result e so.inlets (subst (λ n. i < n) (sym c.in_ok-lanes.ensures.receivers) c.loop-cluster-test.true) c.remove-inlets.ensures.value);
          });
      choosers = each_more us more u i (λ n x. (b : _) → (x.chooser.boxed ≡ slice_index_or c.args.arbiters.items n b) × (x.chooser.rotate ≡ 0)) so.count c.in_ok-push.ensures.items so.choosers (λ b. (
        c.in_ok-unit.ensures.chooser.0 ∙ taken_at c.args.arbiters.items c.loop-cluster.arbiters.items i c.remove.result b so.arbiters (subst (λ n. i < n) (sym c.requires) c.loop-cluster-test.true) c.remove.ensures.value,
        c.in_ok-unit.ensures.chooser.1,
      ));
      counts = each_more us more u i (λ n x. (x.turns ≡ 0) × (x.steps ≡ 0) × (x.ahead ≡ 0)) so.count c.in_ok-push.ensures.items so.counts c.in_ok-unit.ensures.counts;
      outlets = taken_more c.in_ok-lanes.lanes.outlets.items c.loop-cluster.lanes.outlets.items c.remove-outlets.new.self.items i so.outlets (subst (λ n. i < n) (sym c.in_ok-lanes.ensures.senders) c.loop-cluster-test.true) c.remove-outlets.ensures.items;
      inlets = taken_more c.in_ok-lanes.lanes.inlets.items c.loop-cluster.lanes.inlets.items c.remove-inlets.new.self.items i so.inlets (subst (λ n. i < n) (sym c.in_ok-lanes.ensures.receivers) c.loop-cluster-test.true) c.remove-inlets.ensures.items;
      arbiters = taken_more c.args.arbiters.items c.loop-cluster.arbiters.items c.remove.new.self.items i so.arbiters (subst (λ n. i < n) (sym c.requires) c.loop-cluster-test.true) c.remove.ensures.items;
    }

pub returns-clause-of : goal.returns-clause-of
returns-clause-of g c =
    let end : c.loop-cluster.cluster ≡ c.args.topology.now.clusters = (let a = c.loop-cluster-test.false in let b = c.loop-cluster.auto.cluster-end in grind arith) in
    started_of (λ u. u.core) (λ v. v.items) (λ v. v.items) _ c.in_ok-lanes.lanes.outlets.items c.in_ok-lanes.lanes.inlets.items c.loop-cluster.units.items c.loop-cluster.cluster (c.loop-cluster.invariant.count ∙ end) c.loop-cluster.invariant.count c.loop-cluster.invariant.started

pub returns-clause-wired : goal.returns-clause-wired
returns-clause-wired g c =
    let end : c.loop-cluster.cluster ≡ c.args.topology.now.clusters = (let a = c.loop-cluster-test.false in let b = c.loop-cluster.auto.cluster-end in grind arith) in
    started_wired (λ u. u.core) (λ v. v.items) (λ v. v.items) (record { image = c.args.image.now; top = c.args.topology.now }) c.in_ok-lanes.lanes.outlets.items c.in_ok-lanes.lanes.inlets.items c.loop-cluster.units.items c.args.topology.now.clusters
    (c.loop-cluster.invariant.count ∙ end) c.in_ok-lanes.ensures (λ n d low. c.loop-cluster.invariant.started n d (subst (λ m. n < m) (sym end) low))

pub returns-clause-unused : goal.returns-clause-unused
returns-clause-unused g c =
    started_unused (λ u. u.core) (λ v. v.items) (λ v. v.items) (record { image = c.args.image.now; top = c.args.topology.now }) c.in_ok-lanes.lanes.outlets.items c.in_ok-lanes.lanes.inlets.items c.loop-cluster.units.items c.loop-cluster.cluster c.loop-cluster.invariant.count c.loop-cluster.invariant.started

pub returns-clause-choosers : goal.returns-clause-choosers
returns-clause-choosers g c n d b low = c.loop-cluster.invariant.choosers n d (subst (λ m. n < m) c.loop-cluster.invariant.count low) b

pub returns-clause-counts : goal.returns-clause-counts
returns-clause-counts g c n d low = c.loop-cluster.invariant.counts n d (subst (λ m. n < m) c.loop-cluster.invariant.count low)
