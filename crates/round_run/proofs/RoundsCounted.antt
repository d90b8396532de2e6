-- Rounds that were counted.
use Rattle.std.proofs.Common.{◌≡◌, ℕ, zero, suc, ◌+◌, ◌*◌, ◌/◌, ◌%◌, ◌^◌, ◌<◌, ◌≤◌, min, List, ◌++◌, take, drop, drop_of_length-le, length, slice_index_or, sym, ap, ◌∙◌, subst, arith}
use Rattle.std.specs.Prelude.{Result, Ok, Err, OnOk}
use Rattle.std.proofs.lemmas.List.{append-nil, take_all}
use Rattle.std.proofs.Math.Nat.{mod-lt, mul-div_cancel_left}
use Rattle.dash_base.specs.declared.topology.Topology.{Topology}
use Rattle.dash_model.specs.Config.{Config}
use Rattle.cluster_unit.specs.Wiring.{AreOf}
use Rattle.round_run.specs.Units.{UnitView, HasCounts, Each, IsMesh}
use Rattle.round_run.specs.Rounds.{Worked, IsCounted, AreCounted, StaysSame}
use Rattle.round_run.specs.Serial.{DidSteps, EachDid}
use Rattle.round_run.proofs.Eaches.{same_then, counts_same, each_then, each_weaker, mesh_stays}
use Rattle.round_run.proofs.Serials.{eachdid_same}

one_more : (h r : ℕ) → 5 * h * (r + 1) ≡ 5 * h * r + 5 * h
one_more h r = grind arith

fits : (b a r : ℕ) → a ≡ 256 * r → r + 1 < 2 ^ 56 → min b 18446744073709551615 ≡ min (a + 256) 18446744073709551615 → b ≡ 256 * (r + 1)
fits b a r is few e = grind arith

enough : (s m h r : ℕ) → s ≤ 5 * h * r → m ≤ s + 3 * h → m ≤ 5 * h * (r + 1)
enough s m h r before more = let e = one_more h r in omega arith

-- the turns of a round, what settled, and the steps of harts alone, at one unit
one_counted : (t : Topology) (r : ℕ) (a b c d e : UnitView) → r + 1 < 2 ^ 56 → d.core.config.top ≡ t → HasCounts a b → Worked b c → HasCounts c d → DidSteps (3 * t.harts) d e → IsCounted t r a → IsCounted t (r + 1) e
one_counted t r a b c d e few top f g h k is =
    let turns_d : d.turns ≡ 256 * (r + 1) = h.turns ∙ fits c.turns b.turns r (f.turns ∙ is.turns) few g.turns in
    let steps_d : d.steps ≡ a.steps = h.steps ∙ g.steps ∙ f.steps in
    let ahead_d : d.ahead ≡ 0 = h.ahead ∙ g.ahead ∙ f.ahead ∙ is.ahead in
    let limit : 5 * d.core.config.top.harts * (d.turns / 256) ≡ 5 * t.harts * (r + 1) =
    ap (λ q. 5 * q.harts * (d.turns / 256)) top ∙ ap (λ n. 5 * t.harts * (n / 256)) turns_d ∙ ap (λ n. 5 * t.harts * n) (mul-div_cancel_left (r + 1) (let some : 0 < 256 = omega arith in some)) in
    let within : d.steps ≤ 5 * t.harts * r = subst (λ n. n ≤ 5 * t.harts * r) (sym steps_d) is.steps in record {
      turns = k.turns ∙ turns_d;
      steps = enough d.steps e.steps t.harts r within k.steps;
      ahead = k.ahead ahead_d (subst (λ n. d.steps + 3 * t.harts ≤ n) (sym limit) (enough d.steps (d.steps + 3 * t.harts) t.harts r within (let z : d.steps + 3 * t.harts ≤ d.steps + 3 * t.harts = omega arith in z)));
    }

-- the first hart of a serial turn is one of the machine
pub first_low : (rounds n : ℕ) (t : Topology) → n ≡ t.clusters * t.harts → rounds % n < t.clusters * t.harts
first_low rounds n t is = subst (λ m. rounds % m < t.clusters * t.harts) (sym is) (mod-lt rounds (some t.clusters t.harts t.clusters_in_range.low t.harts_in_range.low))
  where
    some : (c h : ℕ) → 1 ≤ c → 1 ≤ h → 0 < c * h
    some (suc c) (suc h) low below = omega arith
    some zero h low below = absurd (omega arith)
    some (suc c) zero low below = absurd (omega arith)

-- a list that was lent whole comes back as it was left
pub returned : {X : Type 0} (n : ℕ) (xs ys : List X) → length xs ≡ length ys → length ys ≡ n → take n (xs ++ drop (length xs) ys) ≡ xs
returned n xs ys same long =
    ap (λ l. take n (xs ++ l)) (drop_of_length-le ys (let a = same in omega arith)) ∙ ap (take n) (append-nil xs) ∙ take_all n xs (let a = same in let b = long in omega arith)

-- a fact holds where a call answered
pub ok_if : {X E : Type 0} (r : Result X E) {A : Type 0} → A → OnOk r A
ok_if (Ok x) a = a
ok_if (Err e) a = tt

module _ {U : Type 0} (view : U → UnitView) where
  -- through a round all stay the same
  pub settled_same : (us xs ys cs : List U) → Each view HasCounts us xs → Each view Worked xs ys → Each view HasCounts ys cs → Each view StaysSame us cs
  settled_same us xs ys cs f g h =
      each_then view StaysSame StaysSame StaysSame us ys cs same_then
      (each_then view StaysSame StaysSame StaysSame us xs ys same_then (each_weaker view HasCounts StaysSame us xs counts_same f) (each_weaker view Worked StaysSame xs ys (λ a b d. d.same) g))
      (each_weaker view HasCounts StaysSame ys cs counts_same h)

  pub worked_same : (us xs ys : List U) → Each view HasCounts us xs → Each view Worked xs ys → Each view StaysSame us ys
  worked_same us xs ys f g =
      each_then view StaysSame StaysSame StaysSame us xs ys same_then (each_weaker view HasCounts StaysSame us xs counts_same f) (each_weaker view Worked StaysSame xs ys (λ a b d. d.same) g)

  pub counts_stay : (us vs : List U) → Each view HasCounts us vs → Each view StaysSame us vs
  counts_stay us vs f = each_weaker view HasCounts StaysSame us vs counts_same f

  pub round_same : (n : ℕ → ℕ) (us xs ys cs vs : List U) → Each view HasCounts us xs → Each view Worked xs ys → Each view HasCounts ys cs → EachDid view n cs vs → Each view StaysSame us vs
  round_same n us xs ys cs vs f g h k = each_then view StaysSame StaysSame StaysSame us cs vs same_then (settled_same us xs ys cs f g h) (eachdid_same view n cs vs k)

  pub stays_joined : (us vs ws : List U) → Each view StaysSame us vs → Each view StaysSame vs ws → Each view StaysSame us ws
  stays_joined us vs ws f g = each_then view StaysSame StaysSame StaysSame us vs ws same_then f g

  -- and it counts
  pub round_counted : (t : Topology) (r : ℕ) (us xs ys cs vs : List U) → IsMesh view t us → AreCounted view t r us → Each view HasCounts us xs → Each view Worked xs ys → Each view HasCounts ys cs → EachDid view (λ c. 3 * t.harts) cs vs
      → AreCounted view t (min (r + 1) 18446744073709551615) vs
  round_counted t r us xs ys cs vs mesh is f g h k few c d low =
      let less : r + 1 < 2 ^ 56 = grind arith in
      let now : r + 1 ≡ min (r + 1) 18446744073709551615 = grind arith in
      let in_c : c < length cs = subst (λ n. c < n) k.count low in
      let in_b : c < length ys = subst (λ n. c < n) h.count in_c in
      let in_a : c < length xs = subst (λ n. c < n) g.count in_b in
      let in_u : c < length us = subst (λ n. c < n) f.count in_a in
      let top = (mesh_stays view t us cs (settled_same us xs ys cs f g h) mesh).top c d in_c in
      subst (λ n. IsCounted t n (view (slice_index_or vs c d))) now
      (one_counted t r _ _ _ _ _ less top (f.each c d in_u) (g.each c d in_a) (h.each c d in_b) (k.each c d in_c) (is (let fewer : r < 2 ^ 56 = omega arith in fewer) c d in_u))

  -- units of a machine stay of it
  pub of_stays : (w : Config) (us vs : List U) → Each view StaysSame us vs → AreOf (λ u. (view u).core) w us → AreOf (λ u. (view u).core) w vs
  of_stays w us vs f of = record {
    count = f.count ∙ of.count;
    config = λ c d low. (let less = subst (λ n. c < n) f.count low in (f.each c d less).config ∙ of.config c d less);
    cluster = λ c d low. (let less = subst (λ n. c < n) f.count low in (f.each c d less).cluster ∙ of.cluster c d less);
  }
