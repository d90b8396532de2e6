-- What the opening state has and each step of a run keeps, every run has.
use Rattle.std.proofs.Common.{◌≡◌, List, [], ◌∷◌, ◌++◌, map, append-nil, refl, sym, ap, ◌∙◌, subst}
use Rattle.std.proofs.lemmas.List.{append_assoc}
use Rattle.dash_event.specs.declared.event.Event.{Event}
use Rattle.dash_model.specs.Config.{Config}
use Rattle.dash_model.specs.Machine.{Machine, Step, event_of, CanHappen, after, opening, AreSteps, state_after, IsRising, Reaches}
use Rattle.dash_model.proofs.Prefix.{rising_first}

steps_more : (w : Config) (m : Machine) (gs : List Step) (g : Step) → AreSteps w m gs → CanHappen w (state_after w m gs) g → AreSteps w m (gs ++ g ∷ [])
steps_more w m [] g s can = (can, tt)
steps_more w m (x ∷ xs) g s can = (s.0, steps_more w (after w m x) xs g s.1 can)

state_more : (w : Config) (m : Machine) (gs : List Step) (g : Step) → state_after w m (gs ++ g ∷ []) ≡ after w (state_after w m gs) g
state_more w m [] g = refl
state_more w m (x ∷ xs) g = state_more w (after w m x) xs g

events_more : (gs : List Step) (g : Step) → map event_of (gs ++ g ∷ []) ≡ map event_of gs ++ g.event ∷ []
events_more [] g = refl
events_more (x ∷ xs) g = ap (λ es. x.event ∷ es) (events_more xs g)

pub reaches_more : (w : Config) (log : List Event) (m : Machine) (g : Step) → Reaches w log m → CanHappen w m g → IsRising (log ++ g.event ∷ []) → Reaches w (log ++ g.event ∷ []) (after w m g)
reaches_more w log m g r can rising = record {
  run = record {
    steps = r.run.steps ++ g ∷ [];
    events = events_more r.run.steps g ∙ ap (λ es. es ++ g.event ∷ []) r.run.events;
    happen = steps_more w (opening w) r.run.steps g r.run.happen (subst (λ y. CanHappen w y g) r.state can);
    rising = rising;
  };
  state = ap (λ y. after w y g) r.state ∙ sym (state_more w (opening w) r.run.steps g);
}

-- each step of a run keeps it
abbrev pub Keeps : Config → (List Event → Machine → Type 0) → Type 0
Keeps w P = (log : List Event) (m : Machine) (g : Step) → Reaches w log m → CanHappen w m g → P log m → P (log ++ g.event ∷ []) (after w m g)

pub steps_keep : (w : Config) (P : List Event → Machine → Type 0) → Keeps w P → (log : List Event) (m : Machine) (gs : List Step) → Reaches w log m → AreSteps w m gs → IsRising (log ++ map event_of gs) → P log m → P (log ++ map event_of gs) (state_after w m gs)
steps_keep w P keeps log m [] r s rising k = subst (λ es. P es m) (sym (append-nil log)) k
steps_keep w P keeps log m (g ∷ gs) r s rising k =
    let e = append_assoc log (g.event ∷ []) (map event_of gs) in
    let rises = subst IsRising (sym e) rising in
    subst (λ es. P es (state_after w (after w m g) gs)) e (steps_keep w P keeps (log ++ g.event ∷ []) (after w m g) gs (reaches_more w log m g r s.0 (rising_first (log ++ g.event ∷ []) (map event_of gs) rises)) s.1 rises (keeps log m g r s.0 k))

pub in_runs : (w : Config) (P : List Event → Machine → Type 0) → P [] (opening w) → Keeps w P → (log : List Event) (m : Machine) → Reaches w log m → P log m
in_runs w P opens keeps log m r =
    let start : Reaches w [] (opening w) = record { run = record { steps = []; events = refl; happen = tt; rising = tt }; state = refl } in
    subst (P log) (sym r.state) (subst (λ es. P es (state_after w (opening w) r.run.steps)) r.run.events (steps_keep w P keeps [] (opening w) r.run.steps start r.run.happen (subst IsRising (sym r.run.events) r.run.rising) opens))
