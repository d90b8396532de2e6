-- Two units that met, among all.
use Rattle.std.proofs.Common.{◌≡◌, ℕ, ◌+◌, ◌-◌, ◌<◌, List, ◌++◌, length, slice_index_or, slice_set, sym, ap, ◌∙◌, subst, arith}
use Rattle.std.proofs.lemmas.List.{length-set, length-append, get_or-set_same, get_or-set_other, set-append_left, set-append_right, get_or_append_left, get_or-append-add}
use mathlib.Core.List.{IsPrefix}
use Rattle.dash_base.specs.declared.topology.Topology.{Topology}
use Rattle.dash_msg.specs.declared.classes.Class.{Class}
use Rattle.mesh_lanes.specs.View.{OutletView, InletView}
use Rattle.cluster_unit.specs.View.{CoreView}
use Rattle.cluster_unit.specs.Ends.{place}
use Rattle.cluster_unit.specs.Meeting.{Flushed, Learned, EndsMet, Met}
use Rattle.round_run.specs.Units.{UnitView, OnlyMet, Each, IsMesh, IsMet, IsEmptied}
use Rattle.round_run.proofs.Eaches.{each_then, each_at, known_again, met_again, met_then}

-- a core whose ends that send were flushed, or whose ends that receive learned of more
pub only_flushed : (a b : UnitView) → Flushed a.core.outlets b.core.outlets → b.core ≡ record a.core { outlets = b.core.outlets } → b.turns ≡ a.turns → b.steps ≡ a.steps → b.ahead ≡ a.ahead → OnlyMet a b
only_flushed a b flushed same turns steps ahead = record {
  counts = record {
    same = record { config = ap (λ (z : CoreView). z.config) same; cluster = ap (λ (z : CoreView). z.cluster) same; outlets = flushed.lane; inlets = λ j x. ap (λ (z : CoreView). (slice_index_or z.inlets j x).lane) same };
    turns = turns;
    steps = steps;
    ahead = ahead;
  };
  log = ap (λ (z : CoreView). z.log) same;
  weight = ap (λ (z : CoreView). z.weight) same;
  outlets = flushed.count;
  inlets = ap (λ (z : CoreView). length z.inlets) same;
  sent = flushed.sent;
  received = λ j x. ap (λ (z : CoreView). (slice_index_or z.inlets j x).received) same;
  known = λ j x. subst (λ (z : CoreView). IsPrefix (slice_index_or a.core.inlets j x).known (slice_index_or z.inlets j x).known) (sym same) (known_again (slice_index_or a.core.inlets j x));
}

pub only_learned : (a b : UnitView) → Learned a.core.inlets b.core.inlets → b.core ≡ record a.core { inlets = b.core.inlets } → b.turns ≡ a.turns → b.steps ≡ a.steps → b.ahead ≡ a.ahead → OnlyMet a b
only_learned a b learned same turns steps ahead = record {
  counts = record {
    same = record { config = ap (λ (z : CoreView). z.config) same; cluster = ap (λ (z : CoreView). z.cluster) same; outlets = λ j x. ap (λ (z : CoreView). (slice_index_or z.outlets j x).lane) same; inlets = learned.lane };
    turns = turns;
    steps = steps;
    ahead = ahead;
  };
  log = ap (λ (z : CoreView). z.log) same;
  weight = ap (λ (z : CoreView). z.weight) same;
  outlets = ap (λ (z : CoreView). length z.outlets) same;
  inlets = learned.count;
  sent = λ j x. ap (λ (z : CoreView). (slice_index_or z.outlets j x).sent) same;
  received = learned.received;
  known = learned.known;
}

-- a core that met itself
pub only_both : (a b : UnitView) → Flushed a.core.outlets b.core.outlets → Learned a.core.inlets b.core.inlets → b.core ≡ record a.core { outlets = b.core.outlets; inlets = b.core.inlets } → b.turns ≡ a.turns → b.steps ≡ a.steps → b.ahead ≡ a.ahead → OnlyMet a b
only_both a b flushed learned same turns steps ahead = record {
  counts = record {
    same = record { config = ap (λ (z : CoreView). z.config) same; cluster = ap (λ (z : CoreView). z.cluster) same; outlets = flushed.lane; inlets = learned.lane };
    turns = turns;
    steps = steps;
    ahead = ahead;
  };
  log = ap (λ (z : CoreView). z.log) same;
  weight = ap (λ (z : CoreView). z.weight) same;
  outlets = flushed.count;
  inlets = learned.count;
  sent = flushed.sent;
  received = learned.received;
  known = learned.known;
}

-- the ends that met stand by the clusters
pub placed : (k : Class) (n : ℕ) (a b : CoreView) (i j : ℕ) → a.cluster ≡ i → b.cluster ≡ j → Met k n a b → (x : OutletView) (y : InletView) → EndsMet n (slice_index_or a.outlets (place j k) x) (slice_index_or b.inlets (place i k) y)
placed k n a b i j at_a at_b met x y =
    subst (λ c. EndsMet n (slice_index_or a.outlets (place c k) x) (slice_index_or b.inlets (place i k) y)) at_b
    (subst (λ c. EndsMet n (slice_index_or a.outlets (place b.cluster k) x) (slice_index_or b.inlets (place c k) y)) at_a (met.ends x y))

-- a list that was cut in two, where one element of each part was set
module _ {U : Type 0} (xs ys : List U) (i : ℕ) (u v : U) where
  abbrev changed : List U
  changed = slice_set xs i u ++ slice_set ys 0 v

  pub set_cut : i < length xs → slice_set (slice_set (xs ++ ys) i u) (length xs) v ≡ changed
  set_cut low =
      ap (λ l. slice_set l (length xs) v) (set-append_left xs ys i u low)
      ∙ set-append_right (slice_set xs i u) ys (length xs) (length xs) v (length-set xs i u) (omega arith)
      ∙ ap (λ n. slice_set xs i u ++ slice_set ys n v) (let none : length xs - length xs ≡ 0 = omega arith in none)

  pub at_low : i < length xs → (d : U) → slice_index_or changed i d ≡ u
  at_low low d = get_or_append_left (slice_set xs i u) (slice_set ys 0 v) d i (subst (λ n. i < n) (sym (length-set xs i u)) low) ∙ get_or-set_same xs i u d low

  pub at_high : 0 < length ys → (d : U) → slice_index_or changed (length xs) d ≡ v
  at_high some d =
      ap (λ n. slice_index_or changed n d) (let m : length xs ≡ length (slice_set xs i u) + 0 = (let l = length-set xs i u in omega arith) in m)
      ∙ get_or-append-add (slice_set xs i u) (slice_set ys 0 v) 0 d ∙ get_or-set_same ys 0 v d some

module _ {U : Type 0} (view : U → UnitView) where
  -- two of them were met
  pub two_met : (xs ys : List U) (i : ℕ) (d e u v : U) → i < length xs → 0 < length ys → OnlyMet (view (slice_index_or xs i d)) (view u) → OnlyMet (view (slice_index_or ys 0 e)) (view v)
      → Each view OnlyMet (xs ++ ys) (slice_set xs i u ++ slice_set ys 0 v)
  two_met xs ys i d e u v low some first second =
      let whole = length-append xs ys in
      let at_i : slice_index_or (xs ++ ys) i d ≡ slice_index_or xs i d = get_or_append_left xs ys d i low in
      let at_j : slice_index_or (slice_set (xs ++ ys) i u) (length xs) e ≡ slice_index_or ys 0 e =
      get_or-set_other (xs ++ ys) i (length xs) u e (omega arith) ∙ ap (λ n. slice_index_or (xs ++ ys) n e) (let m : length xs ≡ length xs + 0 = omega arith in m) ∙ get_or-append-add xs ys 0 e in
      subst (λ l. Each view OnlyMet (xs ++ ys) l) (set_cut xs ys i u v low)
      (each_then view OnlyMet OnlyMet OnlyMet (xs ++ ys) (slice_set (xs ++ ys) i u) (slice_set (slice_set (xs ++ ys) i u) (length xs) v) met_then
      (each_at view OnlyMet (xs ++ ys) i d u met_again (omega arith) (subst (λ z. OnlyMet (view z) (view u)) (sym at_i) first))
      (each_at view OnlyMet (slice_set (xs ++ ys) i u) (length xs) e v met_again (let l = length-set (xs ++ ys) i u in omega arith) (subst (λ z. OnlyMet (view z) (view v)) (sym at_j) second)))

  -- the ends of two that met
  pub ends_met : (ws : List U) (k : Class) (n a b : ℕ) (u v : U) → ((d : U) → slice_index_or ws a d ≡ u) → ((e : U) → slice_index_or ws b e ≡ v)
      → ((x : OutletView) (y : InletView) → EndsMet n (slice_index_or (view u).core.outlets (place b k) x) (slice_index_or (view v).core.inlets (place a k) y)) → IsMet view k n a b ws
  ends_met ws k n a b u v at_a at_b ends d e x y =
      subst (λ z. EndsMet n (slice_index_or (view z).core.outlets (place b k) x) (slice_index_or (view (slice_index_or ws b e)).core.inlets (place a k) y)) (sym (at_a d))
      (subst (λ z. EndsMet n (slice_index_or (view u).core.outlets (place b k) x) (slice_index_or (view z).core.inlets (place a k) y)) (sym (at_b e)) (ends x y))

  -- where they stand among all
  low_is : (t : Topology) (xs ys : List U) (i : ℕ) (d u : U) → i < length xs → IsMesh view t (xs ++ ys) → OnlyMet (view (slice_index_or xs i d)) (view u) → (view u).core.cluster ≡ i
  low_is t xs ys i d u low mesh only =
      only.counts.same.cluster ∙ ap (λ z. (view z).core.cluster) (sym (get_or_append_left xs ys d i low)) ∙ mesh.cluster i d (let whole = length-append xs ys in omega arith)

  high_is : (t : Topology) (xs ys : List U) (e v : U) → 0 < length ys → IsMesh view t (xs ++ ys) → OnlyMet (view (slice_index_or ys 0 e)) (view v) → (view v).core.cluster ≡ length xs
  high_is t xs ys e v some mesh only =
      let at : slice_index_or (xs ++ ys) (length xs) e ≡ slice_index_or ys 0 e = ap (λ n. slice_index_or (xs ++ ys) n e) (let m : length xs ≡ length xs + 0 = omega arith in m) ∙ get_or-append-add xs ys 0 e in
      only.counts.same.cluster ∙ ap (λ z. (view z).core.cluster) (sym at) ∙ mesh.cluster (length xs) e (let whole = length-append xs ys in omega arith)

  -- one of the first part met the first of the other, which receives
  pub met_up : (t : Topology) (us xs ys : List U) (i m : ℕ) (d e u v : U) (k : Class) (n : ℕ) → us ≡ xs ++ ys → length xs ≡ m → i < length xs → 0 < length ys → IsMesh view t us
      → OnlyMet (view (slice_index_or xs i d)) (view u) → OnlyMet (view (slice_index_or ys 0 e)) (view v) → Met k n (view u).core (view v).core
      → Each view OnlyMet us (slice_set xs i u ++ slice_set ys 0 v) × IsMet view k n i m (slice_set xs i u ++ slice_set ys 0 v)
  met_up t us xs ys i m d e u v k n whole here low some mesh first second met =
      let all : IsMesh view t (xs ++ ys) = subst (IsMesh view t) whole mesh in (
        subst (λ l. Each view OnlyMet l (slice_set xs i u ++ slice_set ys 0 v)) (sym whole) (two_met xs ys i d e u v low some first second),
        subst (λ l. IsMet view k n i l (slice_set xs i u ++ slice_set ys 0 v)) here
            (ends_met (slice_set xs i u ++ slice_set ys 0 v) k n i (length xs) u v (at_low xs ys i u v low) (at_high xs ys i u v some)
            (placed k n (view u).core (view v).core i (length xs) (low_is t xs ys i d u low all first) (high_is t xs ys e v some all second) met)),
      )

  -- or which sends
  pub met_down : (t : Topology) (us xs ys : List U) (i m : ℕ) (d e u v : U) (k : Class) (n : ℕ) → us ≡ xs ++ ys → length xs ≡ m → i < length xs → 0 < length ys → IsMesh view t us
      → OnlyMet (view (slice_index_or xs i d)) (view u) → OnlyMet (view (slice_index_or ys 0 e)) (view v) → Met k n (view v).core (view u).core
      → Each view OnlyMet us (slice_set xs i u ++ slice_set ys 0 v) × IsMet view k n m i (slice_set xs i u ++ slice_set ys 0 v)
  met_down t us xs ys i m d e u v k n whole here low some mesh first second met =
      let all : IsMesh view t (xs ++ ys) = subst (IsMesh view t) whole mesh in (
        subst (λ l. Each view OnlyMet l (slice_set xs i u ++ slice_set ys 0 v)) (sym whole) (two_met xs ys i d e u v low some first second),
        subst (λ l. IsMet view k n l i (slice_set xs i u ++ slice_set ys 0 v)) here
            (ends_met (slice_set xs i u ++ slice_set ys 0 v) k n (length xs) i v u (at_high xs ys i u v some) (at_low xs ys i u v low)
            (placed k n (view v).core (view u).core (length xs) i (high_is t xs ys e v some all second) (low_is t xs ys i d u low all first) met)),
      )

  -- or one met itself
  pub met_self : (t : Topology) (us : List U) (i : ℕ) (d u : U) (k : Class) (n : ℕ) → i < length us → IsMesh view t us
      → OnlyMet (view (slice_index_or us i d)) (view u) → Met k n (view u).core (view u).core
      → Each view OnlyMet us (slice_set us i u) × IsMet view k n i i (slice_set us i u)
  met_self t us i d u k n low mesh only met =
      let here = only.counts.same.cluster ∙ mesh.cluster i d low in (
        each_at view OnlyMet us i d u met_again low only,
        ends_met (slice_set us i u) k n i i u u (λ e. get_or-set_same us i u e low) (λ e. get_or-set_same us i u e low) (placed k n (view u).core (view u).core i i here here met),
      )

  -- what is emptied stays so where units only meet
  pub emptied_stays : (us vs : List U) (i j : ℕ) → Each view OnlyMet us vs → i < length us → j < length us → IsEmptied view us i j → IsEmptied view vs i j
  emptied_stays us vs i j f low below was k d e x y = (f.each i d low).sent (place j k) x ∙ was k d e x y ∙ sym ((f.each j e below).received (place i k) y)
