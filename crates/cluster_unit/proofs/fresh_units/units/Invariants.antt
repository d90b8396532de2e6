use Rattle.std.proofs.Common.{◌≡◌, ℕ, ◌<◌, length, drop, slice_index_or}
use Rattle.cluster_unit.proofs.FreshUnits.{IsStarted}
use Rattle.cluster_unit.proofs.fresh_units.units.Given as goal

abbrev pub invariant-loop-cluster : goal.invariant-loop-cluster
invariant-loop-cluster g l = record {
  count : length l.units.items ≡ l.cluster;
  started : (c : ℕ) (d : _) → c < l.cluster → IsStarted (λ v. v.items) (λ v. v.items) (record { image = l.image; top = l.topology }) l.initial.lanes.outlets.items l.initial.lanes.inlets.items c (slice_index_or l.units.items c d).core;
  choosers : (c : ℕ) (d : _) → c < l.cluster → (b : _) → ((slice_index_or l.units.items c d).chooser.boxed ≡ slice_index_or l.fn.arbiters.items c b) × ((slice_index_or l.units.items c d).chooser.rotate ≡ 0);
  counts : (c : ℕ) (d : _) → c < l.cluster → ((slice_index_or l.units.items c d).turns ≡ 0) × ((slice_index_or l.units.items c d).steps ≡ 0) × ((slice_index_or l.units.items c d).ahead ≡ 0);
  outlets : l.lanes.outlets.items ≡ drop l.cluster l.initial.lanes.outlets.items;
  inlets : l.lanes.inlets.items ≡ drop l.cluster l.initial.lanes.inlets.items;
  arbiters : l.arbiters.items ≡ drop l.cluster l.fn.arbiters.items;
}
