-- The events of a run by their positions: the state in which each happens, and what lasts from one to another.
use Rattle.std.proofs.Common.{◌≡◌, ℕ, zero, suc, ◌+◌, ◌<◌, Option, Some, None, List, [], ◌∷◌, ◌++◌, length, map, slice_get, append-nil, refl, sym, ap, ap₂, ◌∙◌, subst, arith}
use Rattle.std.specs.Prelude.{option_map, take}
use Rattle.std.proofs.lemmas.List.{append_assoc, length-append}
use Rattle.dash_event.specs.declared.event.Event.{Event}
use Rattle.dash_event.specs.declared.event.Kind.{Kind}
use Rattle.dash_model.specs.Config.{Config}
use Rattle.dash_model.specs.Machine.{Machine, Step, event_of, CanHappen, after, opening, AreSteps, state_after, IsRising, IsRun, Reaches}
use Rattle.dash_model.specs.Log.{IsEventAt}
use Rattle.dash_model.proofs.Effects.{reach_same}
use Rattle.dash_model.proofs.Prefix.{rising_first}
use Rattle.dash_model.proofs.InRuns.{Keeps, steps_keep, reaches_more}

-- what happened at a position of a run: the events before it, the state that they lead to, its step, and the steps that follow
pub record Happened (w : Config) (log : List Event) (i : ℕ) (e : Kind) : Type 0 where
  pub before : List Event
  pub state : Machine
  pub step : Step
  pub follow : List Step
  pub is : step.event.kind ≡ e
  pub whole : log ≡ before ++ (step.event ∷ map event_of follow)
  pub place : length before ≡ i
  pub reached : Reaches w before state
  pub can : CanHappen w state step
  pub rest : AreSteps w (after w state step) follow

-- steps parted at a position
record Parted (w : Config) (m : Machine) (gs : List Step) (i : ℕ) (e : Event) : Type 0 where
  pub firsts : List Step
  pub step : Step
  pub follow : List Step
  pub is : step.event ≡ e
  pub events : map event_of gs ≡ map event_of firsts ++ (step.event ∷ map event_of follow)
  pub place : length (map event_of firsts) ≡ i
  pub happen : AreSteps w m firsts
  pub can : CanHappen w (state_after w m firsts) step
  pub rest : AreSteps w (after w (state_after w m firsts) step) follow

part : (w : Config) (m : Machine) (gs : List Step) (i : ℕ) (e : Event) → AreSteps w m gs → slice_get (map event_of gs) i ≡ Some e → Parted w m gs i e
part w m [] i e s at = absurd (cc)
part w m (g ∷ gs) zero e s at = record { firsts = []; step = g; follow = gs; is = cc; events = refl; place = refl; happen = tt; can = s.0; rest = s.1 }
part w m (g ∷ gs) (suc i) e s at =
    let r = part w (after w m g) gs i e s.1 at in
    let n = r.place in
    record { firsts = g ∷ r.firsts; step = r.step; follow = r.follow; is = r.is; events = ap (λ es. g.event ∷ es) r.events; place = omega arith; happen = (s.0, r.happen); can = r.can; rest = r.rest }

-- the event of a kind at a position
record Found (log : List Event) (i : ℕ) (k : Kind) : Type 0 where
  pub event : Event
  pub at : slice_get log i ≡ Some event
  pub is : event.kind ≡ k

found_by : (log : List Event) (i : ℕ) (k : Kind) (o : Option Event) → slice_get log i ≡ o → option_map (λ (e : Event). e.kind) o ≡ Some k → Found log i k
found_by log i k (Some e) at is = record { event = e; at = at; is = cc }
found_by log i k None at is = absurd (cc)

found : (log : List Event) (i : ℕ) (k : Kind) → IsEventAt log i k → Found log i k
found log i k at = found_by log i k (slice_get log i) refl at

pub happened : (w : Config) (log : List Event) (i : ℕ) (k : Kind) → IsRun w log → IsEventAt log i k → Happened w log i k
happened w log i k r at =
    let f = found log i k at in
    let p = part w (opening w) r.steps i f.event r.happen (ap (λ es. slice_get es i) r.events ∙ f.at) in
    let whole : log ≡ map event_of p.firsts ++ (p.step.event ∷ map event_of p.follow) = sym r.events ∙ p.events in
    record {
      before = map event_of p.firsts;
      state = state_after w (opening w) p.firsts;
      step = p.step;
      follow = p.follow;
      is = ap (λ (x : Event). x.kind) p.is ∙ f.is;
      whole = whole;
      place = p.place;
      reached = record { run = record { steps = p.firsts; events = refl; happen = p.happen; rising = rising_first (map event_of p.firsts) (p.step.event ∷ map event_of p.follow) (subst IsRising whole r.rising) }; state = refl };
      can = p.can;
      rest = p.rest;
    }

take_all : (xs ys : List Event) → take (length xs) (xs ++ ys) ≡ xs
take_all [] ys = refl
take_all (x ∷ xs) ys = ap (λ zs. x ∷ zs) (take_all xs ys)

slice_at : (xs ys : List Event) (x : Event) → slice_get (xs ++ (x ∷ ys)) (length xs) ≡ Some x
slice_at [] ys x = refl
slice_at (z ∷ xs) ys x = slice_at xs ys x

-- what stands before a position
pub before_is : (w : Config) (log : List Event) (i : ℕ) (k : Kind) (a : Happened w log i k) → a.before ≡ take i log
before_is w log i k a = sym (take_all a.before (a.step.event ∷ map event_of a.follow)) ∙ ap (λ n. take n (a.before ++ (a.step.event ∷ map event_of a.follow))) a.place ∙ ap (take i) (sym a.whole)

slice_past : (xs ys : List Event) (x : Event) (n : ℕ) → slice_get (xs ++ (x ∷ ys)) (length xs + 1 + n) ≡ slice_get ys n
slice_past [] ys x n = ap (λ m. slice_get (x ∷ ys) m) (let e : 0 + 1 + n ≡ suc n = omega arith in e)
slice_past (z ∷ xs) ys x n = ap (λ m. slice_get (z ∷ (xs ++ (x ∷ ys))) m) (let e : suc (length xs) + 1 + n ≡ suc (length xs + 1 + n) = omega arith in e) ∙ slice_past xs ys x n

reaches_all : (w : Config) (log : List Event) (m : Machine) (gs : List Step) → Reaches w log m → AreSteps w m gs → IsRising (log ++ map event_of gs) → Reaches w (log ++ map event_of gs) (state_after w m gs)
reaches_all w log m [] r s rising = subst (λ es. Reaches w es m) (sym (append-nil log)) r
reaches_all w log m (g ∷ gs) r s rising =
    let e = append_assoc log (g.event ∷ []) (map event_of gs) in
    let rises = subst IsRising (sym e) rising in
    subst (λ es. Reaches w es (state_after w (after w m g) gs)) e (reaches_all w (log ++ g.event ∷ []) (after w m g) gs (reaches_more w log m g r s.0 (rising_first (log ++ g.event ∷ []) (map event_of gs) rises)) s.1 rises)

-- the number of positions between two
between : (i j : ℕ) → i < j → (n : ℕ) × (j ≡ i + 1 + n)
between i zero low = absurd (omega arith)
between zero (suc j) low = (j, omega arith)
between (suc i) (suc j) low = let r = between i j (omega arith) in (r.0, (let e = r.1 in omega arith))

-- what holds after an event, and each step of a run keeps, holds before each later event
pub lasts : (w : Config) (P : List Event → Machine → Type 0) → Keeps w P → (log : List Event) (i j : ℕ) (d e : Kind) → IsRun w log → (a : Happened w log i d) → (b : Happened w log j e) → i < j
    → P (a.before ++ a.step.event ∷ []) (after w a.state a.step) → P b.before b.state
lasts w P keeps log i j d e r a b low holds =
    let n = between i j low in
    let firsts = a.before ++ a.step.event ∷ [] in
    let last = b.step.event ∷ map event_of b.follow in
    let at_j : slice_get log j ≡ Some b.step.event = ap (λ es. slice_get es j) b.whole ∙ sym (ap (slice_get (b.before ++ last)) b.place) ∙ slice_at b.before (map event_of b.follow) b.step.event in
    let there : slice_get (map event_of a.follow) n.0 ≡ Some b.step.event = sym (slice_past a.before (map event_of a.follow) a.step.event n.0) ∙ ap (λ k. slice_get (a.before ++ (a.step.event ∷ map event_of a.follow)) (k + 1 + n.0)) a.place ∙ ap₂ slice_get (sym a.whole) (sym n.1) ∙ at_j in
    let p = part w (after w a.state a.step) a.follow n.0 b.step.event a.rest there in
    let middle = map event_of p.firsts in
    let later = p.step.event ∷ map event_of p.follow in
    let whole : log ≡ (firsts ++ middle) ++ later = a.whole ∙ sym (append_assoc a.before (a.step.event ∷ []) (map event_of a.follow)) ∙ ap (λ es. firsts ++ es) p.events ∙ sym (append_assoc firsts middle later) in
    let rises = rising_first (firsts ++ middle) later (subst IsRising whole r.rising) in
    let first = reaches_more w a.before a.state a.step a.reached a.can (rising_first firsts middle rises) in
    let count : length (firsts ++ middle) ≡ j = length-append firsts middle ∙ ap₂ (λ x y. x + y) (length-append a.before (a.step.event ∷ [])) p.place ∙ ap (λ k. k + 1 + n.0) a.place ∙ sym n.1 in
    let same : firsts ++ middle ≡ b.before = sym (take_all (firsts ++ middle) later) ∙ ap₂ take count (sym whole) ∙ sym (before_is w log j e b) in
    let state : state_after w (after w a.state a.step) p.firsts ≡ b.state = reach_same w b.before (state_after w (after w a.state a.step) p.firsts) b.state (subst (λ es. Reaches w es (state_after w (after w a.state a.step) p.firsts)) same (reaches_all w firsts (after w a.state a.step) p.firsts first p.happen rises)) b.reached in
    subst (λ m. P b.before m) state (subst (λ es. P es (state_after w (after w a.state a.step) p.firsts)) same (steps_keep w P keeps firsts (after w a.state a.step) p.firsts first p.happen rises holds))
