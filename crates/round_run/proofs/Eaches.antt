-- Lists of units that change one by one.
use Rattle.std.proofs.Common.{◌≡◌, ◌≢◌, ℕ, ◌<◌, ◌==◌, Bool, true, false, List, [], length, slice_index_or, slice_set, refl, sym, ap, ◌∙◌, subst, arith}
use Rattle.std.proofs.lemmas.Bool.Decides.{nat_tests}
use Rattle.std.proofs.lemmas.List.{length-set, get_or-set_same, get_or-set_other, get_or_default, append-nil}
use mathlib.Core.List.{IsPrefix}
use Rattle.dash_base.specs.declared.topology.Topology.{Topology}
use Rattle.mesh_lanes.specs.View.{InletView}
use Rattle.mesh_lanes.proofs.LawsOffered.{prefix_then}
use Rattle.dash_model.specs.Part.{opening_part}
use Rattle.dash_model.specs.LocalRun.{IsLocalRun, part_at}
use Rattle.unit_rows.specs.declared.choice.Choice.TheVariants.{Grant}
use Rattle.unit_rows.specs.Rows.{Enabled}
use Rattle.cluster_unit.specs.Ends.{place}
use Rattle.round_run.specs.Units.{UnitView, IsSame, HasCounts, OnlyMet, Each, IsMesh, NoneGrants}

-- a fact of each number follows from that of one, and that of all others
pub at_or_not : (P : ℕ → Type 0) (i j : ℕ) (b : Bool) → (i == j) ≡ b → P i → (i ≢ j → P j) → P j
at_or_not P i j true e here other = subst P (grind (arith, nat_tests)) here
at_or_not P i j false e here other = other (grind (arith, nat_tests))

pub same_again : (a : UnitView) → IsSame a.core a.core
same_again a = record { config = refl; cluster = refl; outlets = λ j x. refl; inlets = λ j x. refl }

pub same_then : (a b c : UnitView) → IsSame a.core b.core → IsSame b.core c.core → IsSame a.core c.core
same_then a b c f g = record {
  config = g.config ∙ f.config;
  cluster = g.cluster ∙ f.cluster;
  outlets = λ j x. g.outlets j x ∙ f.outlets j x;
  inlets = λ j x. g.inlets j x ∙ f.inlets j x;
}

pub counts_again : (a : UnitView) → HasCounts a a
counts_again a = record { same = same_again a; turns = refl; steps = refl; ahead = refl }

pub counts_then : (a b c : UnitView) → HasCounts a b → HasCounts b c → HasCounts a c
counts_then a b c f g = record { same = same_then a b c f.same g.same; turns = g.turns ∙ f.turns; steps = g.steps ∙ f.steps; ahead = g.ahead ∙ f.ahead }

pub known_again : (i : InletView) → IsPrefix i.known i.known
known_again i = ([], append-nil i.known)

pub met_again : (a : UnitView) → OnlyMet a a
met_again a = record { counts = counts_again a; log = refl; weight = refl; outlets = refl; inlets = refl; sent = λ j x. refl; received = λ j x. refl; known = λ j x. known_again (slice_index_or a.core.inlets j x) }

pub met_then : (a b c : UnitView) → OnlyMet a b → OnlyMet b c → OnlyMet a c
met_then a b c f g = record {
  counts = counts_then a b c f.counts g.counts;
  log = g.log ∙ f.log;
  weight = g.weight ∙ f.weight;
  outlets = g.outlets ∙ f.outlets;
  inlets = g.inlets ∙ f.inlets;
  sent = λ j x. g.sent j x ∙ f.sent j x;
  received = λ j x. g.received j x ∙ f.received j x;
  known = λ j x. prefix_then (slice_index_or a.core.inlets j x).known (slice_index_or b.core.inlets j x).known (slice_index_or c.core.inlets j x).known (f.known j x) (g.known j x);
}

module _ {U : Type 0} (view : U → UnitView) where
  pub each_again : (R : UnitView → UnitView → Type 0) (us : List U) → ((a : UnitView) → R a a) → Each view R us us
  each_again R us again = record { count = refl; each = λ c d low. again (view (slice_index_or us c d)) }

  pub each_then : (R S T : UnitView → UnitView → Type 0) (us vs ws : List U) → ((a b c : UnitView) → R a b → S b c → T a c) → Each view R us vs → Each view S vs ws → Each view T us ws
  each_then R S T us vs ws join f g = record {
    count = g.count ∙ f.count;
    each = λ c d low. join (view (slice_index_or us c d)) (view (slice_index_or vs c d)) (view (slice_index_or ws c d)) (f.each c d low) (g.each c d (subst (λ n. c < n) (sym f.count) low));
  }

  -- one of them changed
  pub each_at : (R : UnitView → UnitView → Type 0) (us : List U) (i : ℕ) (d v : U) → ((a : UnitView) → R a a) → i < length us → R (view (slice_index_or us i d)) (view v) → Each view R us (slice_set us i v)
  each_at R us i d v again low goes = record {
    count = length-set us i v;
    each = λ c e inside. at_or_not (λ n. R (view (slice_index_or us n e)) (view (slice_index_or (slice_set us i v) n e))) i c (i == c) refl
        (subst (λ z. R (view (slice_index_or us i e)) (view z)) (sym (get_or-set_same us i v e low)) (subst (λ z. R (view z) (view v)) (get_or_default us i d e low) goes))
        (λ far. subst (λ z. R (view (slice_index_or us c e)) (view z)) (sym (get_or-set_other us i c v e (λ q. far (sym q)))) (again (view (slice_index_or us c e))));
  }

  -- by a weaker change
  pub each_weaker : (R S : UnitView → UnitView → Type 0) (us vs : List U) → ((a b : UnitView) → R a b → S a b) → Each view R us vs → Each view S us vs
  each_weaker R S us vs weaker f = record { count = f.count; each = λ c d low. weaker (view (slice_index_or us c d)) (view (slice_index_or vs c d)) (f.each c d low) }

  -- a mesh whose units stay the same is one
  pub mesh_stays : (t : Topology) (us vs : List U) → Each view (λ a b. IsSame a.core b.core) us vs → IsMesh view t us → IsMesh view t vs
  mesh_stays t us vs f m =
      let less : (c : ℕ) → c < length vs → c < length us = λ c low. subst (λ n. c < n) f.count low in
      let cluster : (c : ℕ) (d : U) → c < length vs → (view (slice_index_or vs c d)).core.cluster ≡ c = λ c d low. (f.each c d (less c low)).cluster ∙ m.cluster c d (less c low) in record {
        count = f.count ∙ m.count;
        top = λ c d low. (let config = (f.each c d (less c low)).config in let top = m.top c d (less c low) in cc);
        cluster = cluster;
        wired = λ a b k d e low below x y.
            let lane_a = (f.each a d (less a low)).outlets (place (view (slice_index_or vs b e)).core.cluster k) x in
            let lane_b = (f.each b e (less b below)).inlets (place (view (slice_index_or vs a d)).core.cluster k) y in
            let at_b = (f.each b e (less b below)).cluster in
            let at_a = (f.each a d (less a low)).cluster in
            let was = m.wired a b k d e (less a low) (less b below) x y in
            cc;
      }

-- what is met keeps its counts, and what keeps its counts is the same
pub met_counts : (a b : UnitView) → OnlyMet a b → HasCounts a b
met_counts a b f = f.counts

pub counts_same : (a b : UnitView) → HasCounts a b → IsSame a.core b.core
counts_same a b f = f.same

module _ {U : Type 0} (view : U → UnitView) where
  -- where units only meet, none that granted nothing grants
  pub none_grants_met : (us vs : List U) → Each view OnlyMet us vs → NoneGrants view us → NoneGrants view vs
  none_grants_met us vs f none c d low i p at able =
      let less : c < length us = subst (λ n. c < n) f.count low in
      let m = f.each c d less in
      none c d less i p
      (record {
        history = at.history;
        events = at.events ∙ m.log;
        ran = subst (λ n. IsLocalRun (view (slice_index_or us c d)).core.config n (opening_part (view (slice_index_or us c d)).core.config) at.history) m.counts.same.cluster
            (subst (λ w. IsLocalRun w (view (slice_index_or vs c d)).core.cluster (opening_part w) at.history) m.counts.same.config at.ran);
        part = at.part ∙ ap (λ w. part_at w (view (slice_index_or vs c d)).core.cluster (opening_part w) at.history) m.counts.same.config
            ∙ ap (λ n. part_at (view (slice_index_or us c d)).core.config n (opening_part (view (slice_index_or us c d)).core.config) at.history) m.counts.same.cluster;
      })
      (subst (λ n. Enabled (view (slice_index_or us c d)).core.config n (Grant i) p) m.counts.same.cluster (subst (λ w. Enabled w (view (slice_index_or vs c d)).core.cluster (Grant i) p) m.counts.same.config able))
