-- Local runs whose lanes are met and whose stamps rose have a merge that is a run of the machine.
use Rattle.std.proofs.Common.{◌≡◌, ◌⊎◌, ℕ, ◌<◌, ◌≤◌, ◌==◌, Bool, true, false, cond, List, [], ◌∷◌, ◌++◌, map, refl, sym, ap, ◌∙◌, subst, inl, inr, arith}
use Rattle.std.proofs.lemmas.Bool.Decides.{nat_tests}
use Rattle.dash_event.specs.declared.event.Event.{Event}
use Rattle.dash_model.specs.Config.{Config}
use Rattle.dash_model.specs.Net.{lane}
use Rattle.dash_model.specs.Part.{opening_part}
use Rattle.dash_model.specs.Machine.{IsRising, Step, by, event_of, opening}
use Rattle.dash_model.specs.LocalRun.{IsLocalRun, part_at, sent_in, received_in, LanesMeet, of_cluster, StampsFit, IsMergeOf, IsMergedRun}
use Rattle.dash_model.proofs.Taking.{of_own}
use Rattle.dash_model.proofs.Ready.{AllBelow, Ready, ready_run, ready_reaches}
use Rattle.dash_model.proofs.Lifted.{lifted}

-- from the clusters' runs to their merge
pub rose_first : (g : Step) (gs : List Step) (i : Bool) → StampsFit (cond i (g ∷ gs) gs) → StampsFit gs
rose_first g gs true h = h.1
rose_first g gs false h = h

pub rose_of : (gs : List Step) → ((c : ℕ) → StampsFit (of_cluster c gs)) → StampsFit gs
unfolding of_cluster
rose_of [] h = tt
rose_of (g ∷ gs) h = ((subst StampsFit (of_own g gs) (h (by g))).0, rose_of gs (λ c. rose_first g (of_cluster c gs) (by g == c) (h c)))

pub none_first : (g : Step) (gs : List Step) (i : Bool) → cond i (g ∷ gs) gs ≡ [] → gs ≡ []
none_first g gs true h = absurd (cc)
none_first g gs false h = h

pub above : (n c : ℕ) → (c < n) ⊎ (n ≤ c)
above n c = grind (arith, nat_tests)

pub below_one : (n : ℕ) (g : Step) (gs : List Step) → ((c : ℕ) → n ≤ c → of_cluster c (g ∷ gs) ≡ []) → (by g < n) ⊎ (n ≤ by g) → by g < n
below_one n g gs h (inl l) = l
below_one n g gs h (inr l) = absurd (cc (sym (of_own g gs) ∙ h (by g) l))

pub below_of : (n : ℕ) (gs : List Step) → ((c : ℕ) → n ≤ c → of_cluster c gs ≡ []) → AllBelow n gs
unfolding of_cluster
below_of n [] h = tt
below_of n (g ∷ gs) h = (below_one n g gs h (above n (by g)), below_of n gs (λ c l. none_first g (of_cluster c gs) (by g == c) (h c l)))

-- what the local runs and their lanes say of the opening state
opening_ready : (w : Config) (runs : ℕ → List Step) (gs : List Step) → ((c : ℕ) → IsLocalRun w c (opening_part w) (runs c)) → (l : LanesMeet w runs)
    → ((c : ℕ) → of_cluster c gs ≡ runs c) → Ready w (opening w) gs l.left
unfolding lane
opening_ready w runs gs local l i = record {
  runs = λ c. subst (IsLocalRun w c (opening_part w)) (sym (i c)) (local c);
  met = λ a b k. ap (λ h. lane a b k (sent_in w a (opening_part w) h)) (i a) ∙ l.met a b k
      ∙ ap (λ h. lane a b k (received_in b h) ++ l.left a b k) (sym (i b));
}

none_mapped : (gs : List Step) → map event_of gs ≡ [] → gs ≡ []
none_mapped [] e = refl
none_mapped (g ∷ gs) e = absurd (cc)

pub merge_is_run : (w : Config) (runs : ℕ → List Step) (es : List Event) → ((c : ℕ) → IsLocalRun w c (opening_part w) (runs c))
    → (l : LanesMeet w runs) → ((c : ℕ) → StampsFit (runs c)) → IsMergeOf w.top.clusters (λ c. map event_of (runs c)) es → IsMergedRun w runs l.left es
merge_is_run w runs es local l rose i =
    let f = lifted runs es i.parts in
    let r = opening_ready w runs f.steps local l f.parts in
    let h = rose_of f.steps (λ c. subst StampsFit (sym (f.parts c)) (rose c)) in
    let o = subst IsRising (sym f.events) i.rising in
    let k = ready_reaches w (opening w) f.steps l.left r o h in
    record {
      run = record {
        steps = f.steps;
        events = f.events;
        happen = ready_run w (opening w) f.steps l.left r o h (below_of w.top.clusters f.steps (λ c n. f.parts c ∙ none_mapped (runs c) (i.none c n)));
        rising = i.rising;
      };
      parts = λ c. k.parts c ∙ ap (part_at w c (opening_part w)) (f.parts c);
      lanes = k.lanes;
    }
