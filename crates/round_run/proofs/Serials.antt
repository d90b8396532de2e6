-- Steps that harts do alone, counted.
use Rattle.std.proofs.Common.{◌≡◌, ℕ, ◌+◌, ◌-◌, ◌*◌, ◌/◌, ◌%◌, ◌<◌, ◌≤◌, ◌==◌, cond, min, max, Bool, true, false, List, length, slice_index_or, slice_set, refl, sym, ◌∙◌, subst, arith}
use Rattle.std.proofs.lemmas.Bool.Decides.{nat_tests}
use Rattle.std.proofs.Math.Nat.{mod-lt, div-lt_iff_lt-mul}
use Rattle.std.proofs.lemmas.Nat.{div-add-mod'}
use Rattle.std.proofs.lemmas.List.{length-set, get_or-set_same, get_or-set_other, get_or_default}
use Rattle.dash_base.specs.declared.topology.Topology.{Topology}
use Rattle.cluster_unit.specs.declared.turn.Turn.{Turn}
use Rattle.cluster_unit.specs.declared.turn.Turn.TheVariants.{Did, Idle}
use Rattle.cluster_unit.specs.Picking.{steps_after, ahead_after}
use Rattle.cluster_unit.specs.Reserving.{Reserved}
use Rattle.cluster_unit.specs.Serial.{Stepped}
use Rattle.round_run.specs.Units.{UnitView, IsSame, HasCounts, Each, IsMesh}
use Rattle.round_run.specs.Serial.{DidSteps, EachDid, tries_of, tries_between}
use Rattle.round_run.proofs.Eaches.{at_or_not, same_again, same_then, counts_again, mesh_stays}
use Rattle.round_run.proofs.Kept.{same_joins, same_reserved, uses_stepped}

-- more steps one after another
pub did_then : (n m : ℕ) (a b c : UnitView) → DidSteps n a b → DidSteps m b c → DidSteps (n + m) a c
did_then n m a b c f g = record {
  same = same_then a b c f.same g.same;
  turns = g.turns ∙ f.turns;
  steps = (let x = f.steps in let y = g.steps in omega arith);
  ahead = λ none room.
      let first = f.ahead none (omega arith) in
      let limit : 5 * b.core.config.top.harts * (b.turns / 256) ≡ 5 * a.core.config.top.harts * (a.turns / 256) = (let t = f.turns in let s = f.same.config in cc) in
      g.ahead first (let x = f.steps in omega arith);
}

pub did_more : (n m : ℕ) (a b : UnitView) → n ≤ m → DidSteps n a b → DidSteps m a b
did_more n m a b less f = record { same = f.same; turns = f.turns; steps = (let x = f.steps in omega arith); ahead = λ none room. f.ahead none (omega arith) }

pub did_none : (a b : UnitView) → HasCounts a b → DidSteps 0 a b
did_none a b f = record { same = f.same; turns = f.turns; steps = (let x = f.steps in omega arith); ahead = λ none room. f.ahead ∙ none }

module _ {U : Type 0} (view : U → UnitView) where
  pub eachdid_none : (us : List U) → EachDid view (λ c. 0) us us
  eachdid_none us = record { count = refl; each = λ c d low. did_none _ _ (record { same = same_again (view (slice_index_or us c d)); turns = refl; steps = refl; ahead = refl }) }

  pub eachdid_then : (n m : ℕ → ℕ) (us vs ws : List U) → EachDid view n us vs → EachDid view m vs ws → EachDid view (λ c. n c + m c) us ws
  eachdid_then n m us vs ws f g = record {
    count = g.count ∙ f.count;
    each = λ c d low. did_then (n c) (m c) _ _ _ (f.each c d low) (g.each c d (subst (λ l. c < l) (sym f.count) low));
  }

  pub eachdid_more : (n m : ℕ → ℕ) (us vs : List U) → ((c : ℕ) → n c ≤ m c) → EachDid view n us vs → EachDid view m us vs
  eachdid_more n m us vs less f = record { count = f.count; each = λ c d low. did_more (n c) (m c) _ _ (less c) (f.each c d low) }

  pub eachdid_counts : (us vs : List U) → Each view HasCounts us vs → EachDid view (λ c. 0) us vs
  eachdid_counts us vs f = record { count = f.count; each = λ c d low. did_none _ _ (f.each c d low) }

  -- one unit did some steps
  pub eachdid_at : (us : List U) (i : ℕ) (d v : U) (n : ℕ) (m : ℕ → ℕ) → i < length us → DidSteps n (view (slice_index_or us i d)) (view v) → n ≤ m i → EachDid view m us (slice_set us i v)
  eachdid_at us i d v n m low did less = record {
    count = length-set us i v;
    each = λ c e inside. at_or_not (λ j. DidSteps (m j) (view (slice_index_or us j e)) (view (slice_index_or (slice_set us i v) j e))) i c (i == c) refl
        (subst (λ z. DidSteps (m i) (view (slice_index_or us i e)) (view z)) (sym (get_or-set_same us i v e low)) (subst (λ z. DidSteps (m i) (view z) (view v)) (get_or_default us i d e low) (did_more n (m i) _ _ less did)))
        (λ far. subst (λ z. DidSteps (m c) (view (slice_index_or us c e)) (view z)) (sym (get_or-set_other us i c v e (λ q. far (sym q)))) (did_more 0 (m c) _ _ (let z : 0 ≤ m c = omega arith in z) (did_none _ _ (counts_again (view (slice_index_or us c e))))));
  }

  pub eachdid_same : (n : ℕ → ℕ) (us vs : List U) → EachDid view n us vs → Each view (λ a b. IsSame a.core b.core) us vs
  eachdid_same n us vs f = record { count = f.count; each = λ c d low. (f.each c d low).same }

  pub mesh_did : (t : Topology) (n : ℕ → ℕ) (us vs : List U) → EachDid view n us vs → IsMesh view t us → IsMesh view t vs
  mesh_did t n us vs f = mesh_stays view t us vs (eachdid_same n us vs f)

  -- and all settled
  pub eachdid_settled : (n : ℕ → ℕ) (us vs ws : List U) → EachDid view n us vs → Each view HasCounts vs ws → EachDid view n us ws
  eachdid_settled n us vs ws f g = eachdid_more (λ c. n c + 0) n us ws (λ c. (let z : n c + 0 ≤ n c = omega arith in z)) (eachdid_then n (λ c. 0) us vs ws f (eachdid_counts vs ws g))

-- a step of a hart alone, for which memory was taken
no_more : (s limit ahead : ℕ) → ahead ≡ 0 → s ≤ limit → max ahead (s - limit) ≡ 0
no_more s limit ahead none less = grind arith

pub did_reserved : (a b : UnitView) → Reserved a.core b.core → b.turns ≡ a.turns → b.steps ≡ a.steps → b.ahead ≡ a.ahead → DidSteps 1 a b
did_reserved a b r turns steps ahead = did_more 0 1 a b (omega arith) (did_none a b (record { same = same_reserved a.core b.core r; turns = turns; steps = steps; ahead = ahead }))

pub did_one : (k : ℕ) (t : Turn) (a b c : UnitView) → Reserved a.core b.core → b.turns ≡ a.turns → b.steps ≡ a.steps → b.ahead ≡ a.ahead → Stepped k t b.core c.core
    → c.turns ≡ b.turns → c.steps ≡ steps_after t b.steps → c.ahead ≡ ahead_after t b.core.config.top.harts b.turns c.steps b.ahead → DidSteps 1 a c
did_one k t a b c r turns steps ahead stepped later_turns later_steps later_ahead = record {
  same = same_joins a.core b.core c.core (same_reserved a.core b.core r) (uses_stepped k t b.core c.core stepped).same;
  turns = later_turns ∙ turns;
  steps = at_most t later_steps;
  ahead = λ none room. not_ahead t later_ahead none (let m = at_most t later_steps in subst (λ n. c.steps ≤ n) same_limit (let low = room in omega arith));
}
  where
    at_most : (s : Turn) → c.steps ≡ steps_after s b.steps → c.steps ≤ a.steps + 1
    at_most Did e = (let x = e in let y = steps in grind arith)
    at_most Idle e = (let x = e in let y = steps in omega arith)

    same_limit : 5 * a.core.config.top.harts * (a.turns / 256) ≡ 5 * b.core.config.top.harts * (b.turns / 256)
    same_limit = (let x = turns in let y = r.config in cc)

    not_ahead : (s : Turn) → c.ahead ≡ ahead_after s b.core.config.top.harts b.turns c.steps b.ahead → a.ahead ≡ 0 → c.steps ≤ 5 * b.core.config.top.harts * (b.turns / 256) → c.ahead ≡ 0
    not_ahead Did e none less = e ∙ no_more c.steps (5 * b.core.config.top.harts * (b.turns / 256)) b.ahead (ahead ∙ none) less
    not_ahead Idle e none less = e ∙ (ahead ∙ none)

-- tries of a hart
pub tries_add : (harts n m hart c : ℕ) → tries_of harts n hart c + tries_of harts m hart c ≤ tries_of harts (n + m) hart c
tries_add harts n m hart c = by_case (hart / harts == c)
  where
    by_case : (b : Bool) → cond b n 0 + cond b m 0 ≤ cond b (n + m) 0
    by_case true = omega arith
    by_case false = omega arith

pub tries_more : (harts n m hart c : ℕ) → n ≤ m → tries_of harts n hart c ≤ tries_of harts m hart c
tries_more harts n m hart c less = by_case (hart / harts == c)
  where
    by_case : (b : Bool) → cond b n 0 ≤ cond b m 0
    by_case true = less
    by_case false = omega arith

pub tries_here : (harts n hart : ℕ) → n ≤ tries_of harts n hart (hart / harts)
tries_here harts n hart = by_case (hart / harts == hart / harts) (grind (arith, nat_tests))
  where
    by_case : (b : Bool) → b ≡ true → n ≤ cond b n 0
    by_case true e = omega arith
    by_case false e = absurd (cc)

-- tries of the harts from one number to another
pub between_none : (harts from c : ℕ) → 0 ≤ tries_between harts from from c
between_none harts from c = omega arith

one_more : (lo hi from hart : ℕ) → from ≤ hart → lo ≤ hart → hart < hi → 3 * (min hi hart - max lo from) + 3 ≤ 3 * (min hi (hart + 1) - max lo from)
one_more lo hi from hart ordered low high = grind arith

no_fewer : (lo hi from hart : ℕ) → 3 * (min hi hart - max lo from) ≤ 3 * (min hi (hart + 1) - max lo from)
no_fewer lo hi from hart = grind arith

pub between_step : (harts from hart c : ℕ) → 0 < harts → from ≤ hart → tries_between harts from hart c + tries_of harts 3 hart c ≤ tries_between harts from (hart + 1) c
between_step harts from hart c some ordered = by_case (hart / harts == c) refl
  where
    by_case : (b : Bool) → (hart / harts == c) ≡ b → 3 * (min (c * harts + harts) hart - max (c * harts) from) + cond b 3 0 ≤ 3 * (min (c * harts + harts) (hart + 1) - max (c * harts) from)
    by_case true e =
        let here : hart / harts ≡ c = grind (arith, nat_tests) in
        let whole : c * harts + hart % harts ≡ hart = subst (λ q. q * harts + hart % harts ≡ hart) here (div-add-mod' hart harts) in
        let rest = mod-lt hart some in
        one_more (c * harts) (c * harts + harts) from hart ordered (omega arith) (omega arith)
    by_case false e = let f = no_fewer (c * harts) (c * harts + harts) from hart in omega arith

pub between_more : (harts from h to c : ℕ) → h ≤ to → tries_between harts from h c ≤ tries_between harts from to c
between_more harts from h to c less = grind arith

pub between_all : (harts first all c : ℕ) → tries_between harts first all c + tries_between harts 0 first c ≤ 3 * harts
between_all harts first all c = (let lo = c * harts in two (c * harts) harts first all)
  where
    two : (lo n first all : ℕ) → 3 * (min (lo + n) all - max lo first) + 3 * (min (lo + n) first - max lo 0) ≤ 3 * n
    two lo n first all = grind arith

-- the unit of a hart
pub hart_low : (hart clusters harts : ℕ) → 0 < harts → hart < clusters * harts → hart / harts < clusters
hart_low hart clusters harts some low = (div-lt_iff_lt-mul some).1 low

-- the steps of one hart, of a machine's units
module _ {U : Type 0} (view : U → UnitView) where
  -- one more
  pub tried : (harts n hart : ℕ) (us vs : List U) (d v : U) → hart / harts < length vs → EachDid view (tries_of harts n hart) us vs → DidSteps 1 (view (slice_index_or vs (hart / harts) d)) (view v)
      → EachDid view (tries_of harts (n + 1) hart) us (slice_set vs (hart / harts) v)
  tried harts n hart us vs d v low f did =
      eachdid_more view (λ c. tries_of harts n hart c + tries_of harts 1 hart c) (tries_of harts (n + 1) hart) us (slice_set vs (hart / harts) v) (λ c. tries_add harts n 1 hart c)
      (eachdid_then view (tries_of harts n hart) (tries_of harts 1 hart) us vs (slice_set vs (hart / harts) v) f (eachdid_at view vs (hart / harts) d v 1 (tries_of harts 1 hart) low did (tries_here harts 1 hart)))

  -- all of them
  pub tried_all : (harts n m hart : ℕ) (us vs : List U) → n ≤ m → EachDid view (tries_of harts n hart) us vs → EachDid view (tries_of harts m hart) us vs
  tried_all harts n m hart us vs less f = eachdid_more view (tries_of harts n hart) (tries_of harts m hart) us vs (λ c. tries_more harts n m hart c less) f

  pub none_tried : (harts hart : ℕ) (us : List U) → EachDid view (tries_of harts 0 hart) us us
  none_tried harts hart us = eachdid_more view (λ c. 0) (tries_of harts 0 hart) us us (λ c. (let z : 0 ≤ tries_of harts 0 hart c = omega arith in z)) (eachdid_none view us)

  -- the unit of a hart is there
  pub unit_there : (t : Topology) (n hart : ℕ) (us vs : List U) → IsMesh view t us → EachDid view (tries_of t.harts n hart) us vs → 0 < t.harts → hart < t.clusters * t.harts → hart / t.harts < length vs
  unit_there t n hart us vs mesh f some low = let m = mesh_did view t (tries_of t.harts n hart) us vs f mesh in subst (λ l. hart / t.harts < l) (sym m.count) (hart_low hart t.clusters t.harts some low)

  -- the harts from one number to another
  pub served_one : (harts from hart : ℕ) (us vs ws : List U) → 0 < harts → from ≤ hart → EachDid view (tries_between harts from hart) us vs → EachDid view (tries_of harts 3 hart) vs ws → EachDid view (tries_between harts from (hart + 1)) us ws
  served_one harts from hart us vs ws some ordered f g =
      eachdid_more view (λ c. tries_between harts from hart c + tries_of harts 3 hart c) (tries_between harts from (hart + 1)) us ws (λ c. between_step harts from hart c some ordered)
      (eachdid_then view (tries_between harts from hart) (tries_of harts 3 hart) us vs ws f g)

  pub served_all : (harts from h to : ℕ) (us vs : List U) → h ≤ to → EachDid view (tries_between harts from h) us vs → EachDid view (tries_between harts from to) us vs
  served_all harts from h to us vs less f = eachdid_more view (tries_between harts from h) (tries_between harts from to) us vs (λ c. between_more harts from h to c less) f

  pub none_served : (harts from : ℕ) (us : List U) → EachDid view (tries_between harts from from) us us
  none_served harts from us = eachdid_more view (λ c. 0) (tries_between harts from from) us us (λ c. (let z : 0 ≤ tries_between harts from from c = omega arith in z)) (eachdid_none view us)

  -- a whole turn, and a part of one
  pub round_served : (harts first all : ℕ) (us vs ws : List U) → EachDid view (tries_between harts first all) us vs → EachDid view (tries_between harts 0 first) vs ws → EachDid view (λ c. 3 * harts) us ws
  round_served harts first all us vs ws f g =
      eachdid_more view (λ c. tries_between harts first all c + tries_between harts 0 first c) (λ c. 3 * harts) us ws (λ c. between_all harts first all c) (eachdid_then view (tries_between harts first all) (tries_between harts 0 first) us vs ws f g)

  pub part_served : (harts first all : ℕ) (us vs : List U) → EachDid view (tries_between harts first all) us vs → EachDid view (λ c. 3 * harts) us vs
  part_served harts first all us vs f = eachdid_more view (tries_between harts first all) (λ c. 3 * harts) us vs (λ c. (let b = between_all harts first all c in omega arith)) f
