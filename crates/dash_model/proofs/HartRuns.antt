-- What a hart keeps along a run: at the events of its own cluster, and at those of the others.
use Rattle.std.proofs.Common.{◌≡◌, ◌≢◌, ℕ, ◌==◌, Bool, true, false, cond, List, [], ◌∷◌, ◌++◌, map, append-nil, refl, sym, subst, arith}
use Rattle.std.proofs.lemmas.Bool.Decides.{nat_tests}
use Rattle.std.proofs.lemmas.List.{append_assoc}
use Rattle.dash_event.specs.declared.event.Event.{Event}
use Rattle.dash_model.specs.Config.{Config, cluster_of}
use Rattle.dash_model.specs.Part.{Processor, Part}
use Rattle.dash_model.specs.HartRows.{HartEffect}
use Rattle.dash_model.specs.Guard.{Guard}
use Rattle.dash_model.specs.Row.{row}
use Rattle.dash_model.specs.Machine.{Machine, Step, event_of, part_after, CanHappen, after, opening, AreSteps, state_after, Reaches}

-- hart h in a state of the machine
abbrev pub hart_at : Config → Machine → ℕ → Processor
hart_at w m h = (m.parts (cluster_of w h)).harts h

-- what an event at cluster c keeps of each hart of c, and of each hart of another cluster
pub record IsKept (w : Config) (I : List Event → ℕ → Processor → Type 0) : Type 0 where
  pub own : (c : ℕ) (log : List Event) (e : Event) (d : HartEffect) (p : Part) (h : ℕ) → Guard w c e.kind d p → I log h (p.harts h) → I (log ++ e ∷ []) h ((row w c e.kind d p).part.harts h)
  pub other : (c : ℕ) (log : List Event) (e : Event) (d : HartEffect) (p : Part) (h : ℕ) (s : Processor) → cluster_of w h ≢ c → Guard w c e.kind d p → I log h s → I (log ++ e ∷ []) h s

module _ (w : Config) (I : List Event → ℕ → Processor → Type 0) (kept : IsKept w I) where
  step_by : (log : List Event) (e : Event) (h c : ℕ) (m : Machine) (d : HartEffect) (q : Part) (b : Bool) → (cluster_of w h == c) ≡ b → Guard w c e.kind d (m.parts c) → q.harts ≡ (row w c e.kind d (m.parts c)).part.harts → I log h (hart_at w m h) → I (log ++ e ∷ []) h ((cond b q (m.parts (cluster_of w h))).harts h)
  step_by log e h c m d q true is can harts k =
      let same : cluster_of w h ≡ c = grind (arith, nat_tests) in
      subst (λ z. I (log ++ e ∷ []) h (z h)) (sym harts) (kept.own c log e d (m.parts c) h can (subst (λ z. I log h ((m.parts z).harts h)) same k))
  step_by log e h c m d q false is can harts k =
      kept.other c log e d (m.parts c) h (hart_at w m h) (λ same. (let yes : (cluster_of w h == c) ≡ true = grind (arith, nat_tests) in absurd (cc))) can k

  pub hart_step : (log : List Event) (m : Machine) (g : Step) → CanHappen w m g → (h : ℕ) → I log h (hart_at w m h) → I (log ++ g.event ∷ []) h (hart_at w (after w m g) h)
  hart_step log m g can h k =
      let c = g.event.cluster.0 in
      step_by log g.event h c m g.done (part_after w c g (m.parts c)) (cluster_of w h == c) refl can.steps.guard refl k

  pub hart_steps : (log : List Event) (m : Machine) (gs : List Step) → AreSteps w m gs → (h : ℕ) → I log h (hart_at w m h) → I (log ++ map event_of gs) h (hart_at w (state_after w m gs) h)
  hart_steps log m [] s h k = subst (λ es. I es h (hart_at w m h)) (sym (append-nil log)) k
  hart_steps log m (g ∷ gs) s h k =
      subst (λ es. I es h (hart_at w (state_after w (after w m g) gs) h)) (append_assoc log (g.event ∷ []) (map event_of gs)) (hart_steps (log ++ g.event ∷ []) (after w m g) gs s.1 h (hart_step log m g s.0 h k))

  pub reached_keeps : (log : List Event) (m : Machine) → Reaches w log m → (h : ℕ) → I [] h (hart_at w (opening w) h) → I log h (hart_at w m h)
  reached_keeps log m r h k = subst (λ n. I log h (hart_at w n h)) (sym r.state) (subst (λ es. I es h (hart_at w (state_after w (opening w) r.run.steps) h)) r.run.events (hart_steps [] (opening w) r.run.steps r.run.happen h k))
