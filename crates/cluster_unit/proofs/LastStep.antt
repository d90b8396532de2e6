-- The last step of a local run whose log ends with an event.
use Rattle.std.proofs.Common.{◌≡◌, ℕ, List, [], ◌∷◌, ◌++◌, map, refl, ap, ap₂}
use Rattle.dash_event.specs.declared.event.Event.{Event}
use Rattle.dash_model.specs.Config.{Config}
use Rattle.dash_model.specs.Part.{Part}
use Rattle.dash_model.specs.Machine.{Step, event_of, part_after, Steps}
use Rattle.dash_model.specs.LocalRun.{IsLocalRun, part_at}
use Rattle.cluster_unit.proofs.OnePart.{first_is, rest_is}

-- the steps before it, and it
pub record LastStep (w : Config) (c : ℕ) (p : Part) (gs : List Step) (log : List Event) (e : Event) : Type 0 where
  pub before : List Step
  pub step : Step
  pub is : gs ≡ before ++ step ∷ []
  pub events : map event_of before ≡ log
  pub event : step.event ≡ e
  pub ran : IsLocalRun w c p before
  pub steps : Steps w c step (part_at w c p before)

pub last_step : (w : Config) (c : ℕ) (p : Part) (gs : List Step) (log : List Event) (e : Event) → map event_of gs ≡ log ++ e ∷ [] → IsLocalRun w c p gs → LastStep w c p gs log e
last_step w c p [] [] e is r = absurd (cc)
last_step w c p [] (x ∷ log) e is r = absurd (cc)
last_step w c p (g ∷ []) [] e is r = record { before = []; step = g; is = refl; events = refl; event = first_is g.event e [] [] is; ran = tt; steps = r.0 }
last_step w c p (g ∷ h ∷ gs) [] e is r = absurd (cc)
last_step w c p (g ∷ gs) (x ∷ log) e is r =
    let rest = last_step w c (part_after w c g p) gs log e (rest_is g.event x (map event_of gs) (log ++ e ∷ []) is) r.1 in
    record {
      before = g ∷ rest.before;
      step = rest.step;
      is = ap (λ hs. g ∷ hs) rest.is;
      events = ap₂ (λ y ys. y ∷ ys) (first_is g.event x (map event_of gs) (log ++ e ∷ []) is) rest.events;
      event = rest.event;
      ran = (r.0, rest.ran);
      steps = rest.steps;
    }
