-- A core whose ends met others keeps what it keeps.
use Rattle.std.proofs.Common.{◌≡◌, ℕ, ◌<◌, ◌≤◌, ◌==◌, List, [], length, slice_index_or, slice_set, refl, sym, ap, ◌∙◌, subst, arith}
use Rattle.std.proofs.lemmas.List.{length-set, get_or-set_same, get_or-set_other, get_or_default, with_items_is, append-nil}
use mathlib.Core.List.{IsPrefix}
use Rattle.std.specs.Prelude.{Vec}
use Rattle.std.specs.Vec.{with_items}
use Rattle.dash_msg.specs.declared.classes.Class.{Class}
use Rattle.mesh_lanes.specs.View.{OutletView, InletView}
use Rattle.unit_rows.specs.Shown.{PartsView}
use Rattle.cluster_unit.specs.View.{CoreView}
use Rattle.cluster_unit.specs.Ends.{place, AllOfClass}
use Rattle.cluster_unit.specs.Core.{IsCore}
use Rattle.cluster_unit.specs.Meeting.{Flushed, Learned, EndsMet, Met}
use Rattle.cluster_unit.proofs.Sending.{at_or_not}

pub flushed_at : (xs : List OutletView) (i : ℕ) (d y : OutletView) → i < length xs → y.lane ≡ (slice_index_or xs i d).lane → y.sent ≡ (slice_index_or xs i d).sent → (slice_index_or xs i d).spare ≤ y.spare → Flushed xs (slice_set xs i y)
flushed_at xs i d y low lane sent spare = record {
  count = length-set xs i y;
  lane = λ j x. at_or_not (λ n. (slice_index_or (slice_set xs i y) n x).lane ≡ (slice_index_or xs n x).lane) i j (i == j) refl
      (ap (λ (z : OutletView). z.lane) (get_or-set_same xs i y x low) ∙ lane ∙ ap (λ (z : OutletView). z.lane) (get_or_default xs i d x low)) (λ far. ap (λ (z : OutletView). z.lane) (get_or-set_other xs i j y x (λ e. far (sym e))));
  sent = λ j x. at_or_not (λ n. (slice_index_or (slice_set xs i y) n x).sent ≡ (slice_index_or xs n x).sent) i j (i == j) refl
      (ap (λ (z : OutletView). z.sent) (get_or-set_same xs i y x low) ∙ sent ∙ ap (λ (z : OutletView). z.sent) (get_or_default xs i d x low)) (λ far. ap (λ (z : OutletView). z.sent) (get_or-set_other xs i j y x (λ e. far (sym e))));
  spare = λ j x. at_or_not (λ n. (slice_index_or xs n x).spare ≤ (slice_index_or (slice_set xs i y) n x).spare) i j (i == j) refl
      (let a = ap (λ (z : OutletView). z.spare) (get_or-set_same xs i y x low) in let b = ap (λ (z : OutletView). z.spare) (get_or_default xs i d x low) in grind arith)
      (λ far. let a = ap (λ (z : OutletView). z.spare) (get_or-set_other xs i j y x (λ e. far (sym e))) in grind arith);
}

-- nothing more was learned
all_known : (i : InletView) → IsPrefix i.known i.known
all_known i = ([], append-nil i.known)

pub learned_at : (xs : List InletView) (i : ℕ) (d y : InletView) → i < length xs → y.lane ≡ (slice_index_or xs i d).lane → y.received ≡ (slice_index_or xs i d).received → IsPrefix (slice_index_or xs i d).known y.known → Learned xs (slice_set xs i y)
learned_at xs i d y low lane received known = record {
  count = length-set xs i y;
  lane = λ j x. at_or_not (λ n. (slice_index_or (slice_set xs i y) n x).lane ≡ (slice_index_or xs n x).lane) i j (i == j) refl
      (ap (λ (z : InletView). z.lane) (get_or-set_same xs i y x low) ∙ lane ∙ ap (λ (z : InletView). z.lane) (get_or_default xs i d x low)) (λ far. ap (λ (z : InletView). z.lane) (get_or-set_other xs i j y x (λ e. far (sym e))));
  received = λ j x. at_or_not (λ n. (slice_index_or (slice_set xs i y) n x).received ≡ (slice_index_or xs n x).received) i j (i == j) refl
      (ap (λ (z : InletView). z.received) (get_or-set_same xs i y x low) ∙ received ∙ ap (λ (z : InletView). z.received) (get_or_default xs i d x low)) (λ far. ap (λ (z : InletView). z.received) (get_or-set_other xs i j y x (λ e. far (sym e))));
  known = λ j x. at_or_not (λ n. IsPrefix (slice_index_or xs n x).known (slice_index_or (slice_set xs i y) n x).known) i j (i == j) refl
      (subst (λ (z : InletView). IsPrefix (slice_index_or xs i x).known z.known) (sym (get_or-set_same xs i y x low)) (subst (λ (z : InletView). IsPrefix z.known y.known) (get_or_default xs i d x low) known))
      (λ far. subst (λ (z : InletView). IsPrefix (slice_index_or xs j x).known z.known) (sym (get_or-set_other xs i j y x (λ e. far (sym e)))) (all_known (slice_index_or xs j x)));
}

-- the two ends where they were set
pub ends_at : (count i j : ℕ) (outlets : List OutletView) (inlets : List InletView) (o : OutletView) (n : InletView) (x : OutletView) (y : InletView) → i < length outlets → j < length inlets → EndsMet count o n → EndsMet count (slice_index_or (slice_set outlets i o) i x) (slice_index_or (slice_set inlets j n) j y)
ends_at count i j outlets inlets o n x y low below met =
    subst (λ z. EndsMet count z (slice_index_or (slice_set inlets j n) j y)) (sym (get_or-set_same outlets i o x low)) (subst (λ z. EndsMet count o z) (sym (get_or-set_same inlets j n y below)) met)

-- the core keeps what it keeps
pub core_met : (v : PartsView) (last : ℕ) (a : CoreView) (capacity : ℕ) (outlets : List OutletView) (inlets : List InletView) → IsCore v last a capacity → Flushed a.outlets outlets → Learned a.inlets inlets → IsCore v last (record a { outlets = outlets; inlets = inlets }) capacity
core_met v last a capacity outlets inlets k flushed learned = record {
  sent = k.sent;
  received = k.received;
  local = k.local;
  weight = k.weight;
  carry = λ d j x low. flushed.sent (place d j) x ∙ k.carry d j x low;
  brought = λ honest f j x low. learned.received (place f j) x ∙ k.brought (λ g i y below. subst (AllOfClass i) (learned.received (place g i) y) (honest g i y below)) f j x low;
  sources = k.sources;
  sized = k.sized;
  mine = k.mine;
  outlets = flushed.count ∙ k.outlets;
  inlets = learned.count ∙ k.inlets;
  spare = λ j x low. let had = k.spare j x (subst (λ n. j < n) flushed.count low) in let more = flushed.spare j x in grind arith;
  room = k.room;
  short = k.short;
}

pub none_learned : (xs : List InletView) → Learned xs xs
none_learned xs = record { count = refl; lane = λ j x. refl; received = λ j x. refl; known = λ j x. all_known (slice_index_or xs j x) }

pub none_flushed : (xs : List OutletView) → Flushed xs xs
none_flushed xs = record { count = refl; lane = λ j x. refl; sent = λ j x. refl; spare = λ j x. grind arith }

-- what met, seen in the cores
pub met_in : {Y Z : Type 0} (k : Class) (count out into : ℕ) (a b : CoreView) (vec : Vec OutletView Y) (lent outlets : List OutletView) (ins : Vec InletView Z) (borrowed inlets : List InletView)
    → ((x : OutletView) (y : InletView) → EndsMet count (slice_index_or outlets out x) (slice_index_or inlets into y)) → out ≡ place b.cluster k → into ≡ place a.cluster k
    → length lent ≡ vec.len → length outlets ≡ length lent → length borrowed ≡ ins.len → length inlets ≡ length borrowed
    → a.outlets ≡ (with_items vec outlets).items → b.inlets ≡ (with_items ins inlets).items → Met k count a b
met_in k count out into a b vec lent outlets ins borrowed inlets met out_is into_is len kept len_in kept_in a_is b_is = record {
  ends = λ x y.
      subst (λ os. EndsMet count (slice_index_or os (place b.cluster k) x) (slice_index_or b.inlets (place a.cluster k) y)) (sym (a_is ∙ with_items_is vec outlets (kept ∙ len)))
      (subst (λ is. EndsMet count (slice_index_or outlets (place b.cluster k) x) (slice_index_or is (place a.cluster k) y)) (sym (b_is ∙ with_items_is ins inlets (kept_in ∙ len_in)))
      (subst (λ n. EndsMet count (slice_index_or outlets n x) (slice_index_or inlets (place a.cluster k) y)) out_is (subst (λ n. EndsMet count (slice_index_or outlets out x) (slice_index_or inlets n y)) into_is (met x y))));
}

pub to_met : {Z : Type 0} (v : PartsView) (last : ℕ) (a : CoreView) (capacity : ℕ) (ins : Vec InletView Z) (lent inlets : List InletView) → IsCore v last a capacity → lent ≡ a.inlets → length lent ≡ ins.len → Learned lent inlets
    → IsCore v last (record a { inlets = (with_items ins inlets).items }) capacity
to_met v last a capacity ins lent inlets k is len learned =
    subst (λ xs. IsCore v last (record a { inlets = xs }) capacity) (sym (with_items_is ins inlets (learned.count ∙ len))) (core_met v last a capacity a.outlets inlets k (none_flushed a.outlets) (subst (λ xs. Learned xs inlets) is learned))
