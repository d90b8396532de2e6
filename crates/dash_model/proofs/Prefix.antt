-- Each event of a run happens in the state that the events before it lead to.
use Rattle.std.proofs.Common.{◌≡◌, List, [], ◌∷◌, ◌++◌, map, refl, ap₂}
use Rattle.dash_event.specs.declared.event.Event.{Event}
use Rattle.dash_model.specs.Config.{Config}
use Rattle.dash_model.specs.Machine.{Machine, Step, event_of, CanHappen, after, opening, AreSteps, state_after, PrecedesAll, IsRising, IsRun}
use Rattle.dash_model.specs.MachineLaws.{HappensAfter}
use Rattle.dash_model.proofs.Lifted.{rest_events}

head_same : (e f : Event) (es fs : List Event) → e ∷ es ≡ f ∷ fs → e ≡ f
head_same e f es fs x = cc

-- the steps before an event, and its own
pub record Split (w : Config) (m : Machine) (before : List Event) (e : Event) : Type 0 where
  pub firsts : List Step
  pub step : Step
  pub events : map event_of firsts ≡ before
  pub is : step.event ≡ e
  pub happen : AreSteps w m firsts
  pub can : CanHappen w (state_after w m firsts) step

split : (w : Config) (m : Machine) (before rest : List Event) (e : Event) (gs : List Step)
    → map event_of gs ≡ before ++ (e ∷ rest) → AreSteps w m gs → Split w m before e
split w m [] rest e [] q s = absurd (cc)
split w m [] rest e (g ∷ gs) q s =
    record { firsts = []; step = g; events = refl; is = head_same g.event e (map event_of gs) rest q; happen = tt; can = s.0 }
split w m (b ∷ bs) rest e [] q s = absurd (cc)
split w m (b ∷ bs) rest e (g ∷ gs) q s =
    let r = split w (after w m g) bs rest e gs (rest_events g.event b (map event_of gs) (bs ++ (e ∷ rest)) q) s.1 in
    record {
      firsts = g ∷ r.firsts;
      step = r.step;
      events = ap₂ (λ x xs. x ∷ xs) (head_same g.event b (map event_of gs) (bs ++ (e ∷ rest)) q) r.events;
      is = r.is;
      happen = (s.0, r.happen);
      can = r.can;
    }

precedes_first : (e : Event) (xs ys : List Event) → PrecedesAll e (xs ++ ys) → PrecedesAll e xs
precedes_first e [] ys h = tt
precedes_first e (x ∷ xs) ys h = (h.0, precedes_first e xs ys h.1)

pub rising_first : (xs ys : List Event) → IsRising (xs ++ ys) → IsRising xs
rising_first [] ys h = tt
rising_first (x ∷ xs) ys h = (precedes_first x xs ys h.0, rising_first xs ys h.1)

pub events_happen : (w : Config) (before rest : List Event) (e : Event) → IsRun w (before ++ (e ∷ rest)) → HappensAfter w before e
events_happen w before rest e r =
    let s = split w (opening w) before rest e r.steps r.events r.happen in
    record {
      state = state_after w (opening w) s.firsts;
      step = s.step;
      is = s.is;
      reached = record { run = record { steps = s.firsts; events = s.events; happen = s.happen; rising = rising_first before (e ∷ rest) r.rising }; state = refl };
      can = s.can;
    }
