-- The steps of a merged log, from the steps of the clusters' own runs.
use Rattle.std.proofs.Common.{◌≡◌, ◌≢◌, ℕ, ◌==◌, true, false, cond, List, [], ◌∷◌, map, refl, sym, ap, ◌∙◌, ap₂, inl, inr, arith}
use Rattle.std.proofs.lemmas.Bool.Decides.{nat_tests}
use Rattle.dash_event.specs.declared.event.Event.{Event}
use Rattle.dash_model.specs.Maps.{upd}
use Rattle.dash_model.specs.Machine.{Step, by, event_of}
use Rattle.dash_model.specs.LocalRun.{of_cluster, events_of}
use Rattle.dash_model.proofs.Along.{same_or_not}
use Rattle.dash_model.proofs.Taking.{of_own, of_other}

-- the steps of a merged log: each event's, in its cluster's order
pub record Lifted (runs : ℕ → List Step) (es : List Event) : Type 0 where
  pub steps : List Step
  pub events : map event_of steps ≡ es
  pub parts : (c : ℕ) → of_cluster c steps ≡ runs c

pub no_steps : (gs : List Step) → [] ≡ map event_of gs → [] ≡ gs
no_steps [] e = refl
no_steps (g ∷ gs) e = absurd (cc)

pub head_event : (e f : Event) (es fs : List Event) → e ∷ es ≡ f ∷ fs → e ≡ f
head_event e f es fs x = cc

pub rest_events : (e f : Event) (es fs : List Event) → e ∷ es ≡ f ∷ fs → es ≡ fs
rest_events e f es fs x = cc

pub events_own : (e : Event) (es : List Event) → events_of e.cluster.0 (e ∷ es) ≡ e ∷ events_of e.cluster.0 es
unfolding events_of
events_own e es =
    let i : (e.cluster.0 == e.cluster.0) ≡ true = grind (arith, nat_tests) in
    ap (λ t. cond t (e ∷ events_of e.cluster.0 es) (events_of e.cluster.0 es)) i

pub events_other : (c : ℕ) (e : Event) (es : List Event) → c ≢ e.cluster.0 → events_of c (e ∷ es) ≡ events_of c es
unfolding events_of
events_other c e es n =
    let i : (e.cluster.0 == c) ≡ false = grind (arith, nat_tests) in
    ap (λ t. cond t (e ∷ events_of c es) (events_of c es)) i

pub upd_own : (runs : ℕ → List Step) (k : ℕ) (gs : List Step) → upd runs k gs k ≡ gs
upd_own runs k gs = let i : (k == k) ≡ true = grind (arith, nat_tests) in ap (λ t. cond t gs (runs k)) i

pub upd_other : (runs : ℕ → List Step) (k c : ℕ) (gs : List Step) → c ≢ k → upd runs k gs c ≡ runs c
upd_other runs k c gs n = let i : (c == k) ≡ false = grind (arith, nat_tests) in ap (λ t. cond t gs (runs c)) i

-- the next step of the event's cluster
pub lift_one : (runs : ℕ → List Step) (e : Event) (es : List Event) (k : List Step) → runs e.cluster.0 ≡ k
    → ((c : ℕ) → events_of c (e ∷ es) ≡ map event_of (runs c))
    → ((rs : ℕ → List Step) → ((c : ℕ) → events_of c es ≡ map event_of (rs c)) → Lifted rs es) → Lifted runs (e ∷ es)
lift_one runs e es [] q f ih = absurd (cc (sym (events_own e es) ∙ f e.cluster.0 ∙ ap (map event_of) q))
lift_one runs e es (g ∷ gs) q f ih =
    let all : e ∷ events_of e.cluster.0 es ≡ g.event ∷ map event_of gs = sym (events_own e es) ∙ f e.cluster.0 ∙ ap (map event_of) q in
    let same : e ≡ g.event = head_event e g.event (events_of e.cluster.0 es) (map event_of gs) all in
    let more : events_of e.cluster.0 es ≡ map event_of gs = rest_events e g.event (events_of e.cluster.0 es) (map event_of gs) all in
    let rest = ih (upd runs e.cluster.0 gs) (λ c. elim (same_or_not c e.cluster.0) [
      | inl i ↦ ap (λ y. events_of y es) i ∙ more ∙ ap (map event_of) (sym (upd_own runs e.cluster.0 gs))
          ∙ ap (λ y. map event_of (upd runs e.cluster.0 gs y)) (sym i)
      | inr n ↦ sym (events_other c e es n) ∙ f c ∙ ap (map event_of) (sym (upd_other runs e.cluster.0 c gs n))
    ]) in
    let number : by g ≡ e.cluster.0 = ap (λ (x : Event). x.cluster.0) (sym same) in
    record {
      steps = g ∷ rest.steps;
      events = ap₂ (λ x xs. x ∷ xs) (sym same) rest.events;
      parts = λ c. elim (same_or_not c (by g)) [
        | inl i ↦ ap (λ y. of_cluster y (g ∷ rest.steps)) i ∙ of_own g rest.steps
            ∙ ap (λ xs. g ∷ xs) (rest.parts (by g) ∙ ap (λ y. upd runs e.cluster.0 gs y) number ∙ upd_own runs e.cluster.0 gs) ∙ sym q
            ∙ ap runs (sym (i ∙ number))
        | inr n ↦ of_other c g rest.steps n ∙ rest.parts c ∙ upd_other runs e.cluster.0 c gs (λ z. n (z ∙ sym number))
      ];
    }

pub lifted : (runs : ℕ → List Step) (es : List Event) → ((c : ℕ) → events_of c es ≡ map event_of (runs c)) → Lifted runs es
unfolding of_cluster events_of
lifted runs [] f = record { steps = []; events = refl; parts = λ c. no_steps (runs c) (f c) }
lifted runs (e ∷ es) f = lift_one runs e es (runs e.cluster.0) refl f (λ rs h. lifted rs es h)
