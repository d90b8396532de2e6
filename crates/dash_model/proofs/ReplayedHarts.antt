-- Every run replays: its harts do their instructions one after another, each from where the last one left it, and each answered as its event says.
use Rattle.std.proofs.Common.{List, [], ap, arith, length, map, refl, subst, suc, sym, zero, ℕ, ◌++◌, ◌+◌, ◌∙◌, ◌∷◌, ◌≡◌}
use Rattle.std.proofs.lemmas.List.{append_assoc}
use Rattle.dash_event.specs.declared.event.Event.{Event}
use Rattle.dash_event.specs.declared.event.Kind.{Kind}
use Rattle.hart_core.specs.Opening.{opening_hart}
use Rattle.dash_model.specs.Config.{Config}
use Rattle.dash_model.specs.Log.{IsEventAt}
use Rattle.dash_model.specs.Machine.{AreSteps, IsRising, IsRun, Machine, Reaches, Step, after, event_of, opening, state_after}
use Rattle.dash_model.specs.Maps.{weigh}
use Rattle.dash_model.specs.Replay.{Harts, IsReplay, Replays}
use Rattle.dash_model.proofs.InRuns.{reaches_more}
use Rattle.dash_model.proofs.Prefix.{rising_first}
use Rattle.dash_model.proofs.ReplaySteps.{EachStands, replay_step, stands_here}

-- harts by position, of which the log is a replay, and which stand as those of the last state do
pub record Replayed (w : Config) (log : List Event) (last : Machine) : Type 0 where
  pub harts : ℕ → Harts
  pub replay : IsReplay w.image w.top log harts
  pub stands : EachStands w last (harts (length log))

-- the same of the events of steps, from these harts on, to the last state
record Replaying (w : Config) (gs : List Step) (old : Harts) (last : Machine) : Type 0 where
  pub harts : ℕ → Harts
  pub starts : harts 0 ≡ old
  pub moves : (i : ℕ) (e : Kind) → IsEventAt (map event_of gs) i e → Replays w.image w.top (harts i) e (harts (i + 1))
  pub stands : EachStands w last (harts (length gs))

-- these harts, and then those
shifted : Harts → (ℕ → Harts) → ℕ → Harts
shifted old f zero = old
shifted old f (suc i) = f i

module _ (w : Config) (old : Harts) (f : ℕ → Harts) (g : Step) (gs : List Step) where
  shifted_moves : Replays w.image w.top old g.event.kind (f 0) → ((i : ℕ) (e : Kind) → IsEventAt (map event_of gs) i e → Replays w.image w.top (f i) e (f (i + 1)))
      → (i : ℕ) (e : Kind) → IsEventAt (map event_of (g ∷ gs)) i e → Replays w.image w.top (shifted old f i) e (shifted old f (i + 1))
  unfolding shifted
  shifted_moves first rest zero e at = let is : g.event.kind ≡ e = cc in subst (λ y. Replays w.image w.top old y (f 0)) is first
  shifted_moves first rest (suc i) e at = subst (λ n. Replays w.image w.top (f i) e (shifted old f n)) (let s : suc (i + 1) ≡ suc i + 1 = omega arith in s) (rest i e at)

replaying : (w : Config) (log : List Event) (m : Machine) (gs : List Step) (old : Harts) → Reaches w log m → AreSteps w m gs → IsRising (log ++ map event_of gs) → EachStands w m old → Replaying w gs old (state_after w m gs)
unfolding shifted
replaying w log m [] old r s rising k = record { harts = λ i. old; starts = refl; moves = λ i e at. absurd (cc); stands = k }
replaying w log m (g ∷ gs) old r s rising k =
    let e = append_assoc log (g.event ∷ []) (map event_of gs) in
    let rises = subst IsRising (sym e) rising in
    let step = replay_step w log m g r s.0 old k in
    let next = replaying w (log ++ g.event ∷ []) (after w m g) gs step.harts (reaches_more w log m g r s.0 (rising_first (log ++ g.event ∷ []) (map event_of gs) rises)) s.1 rises step.stands in
    record {
      harts = shifted old next.harts;
      starts = refl;
      moves = shifted_moves w old next.harts g gs (subst (λ h. Replays w.image w.top old g.event.kind h) (sym next.starts) step.replays) next.moves;
      stands = next.stands;
    }

opening_stands : (w : Config) → EachStands w (opening w) (λ h. opening_hart w.image w.top h)
unfolding weigh
opening_stands w h = stands_here w h (opening_hart w.image w.top h) (opening_hart w.image w.top h) [] refl refl

count : (gs : List Step) → length gs ≡ length (map event_of gs)
count [] = refl
count (g ∷ gs) = ap suc (count gs)

-- every run
pub replayed : (w : Config) (log : List Event) → (run : IsRun w log) → Replayed w log (state_after w (opening w) run.steps)
replayed w log run =
    let start : Reaches w [] (opening w) = record { run = record { steps = []; events = refl; happen = tt; rising = tt }; state = refl } in
    let all = replaying w [] (opening w) run.steps (λ h. opening_hart w.image w.top h) start run.happen (subst IsRising (sym run.events) run.rising) (opening_stands w) in
    record {
      harts = all.harts;
      replay = record {
        opens = λ h. ap (λ (f : Harts). f h) all.starts;
        moves = λ i e at. all.moves i e (subst (λ es. IsEventAt es i e) (sym run.events) at);
      };
      stands = subst (λ n. EachStands w (state_after w (opening w) run.steps) (all.harts n)) (count run.steps ∙ ap length run.events) all.stands;
    }
