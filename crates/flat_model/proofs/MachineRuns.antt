-- One more turn of a run in which it is said which hart is next.
use Rattle.std.proofs.Common.{◌≡◌, ◌<◌, ℕ, ◌+◌, List, [], ◌∷◌, ◌++◌, length, map, take, get_or, ap, sym, ◌∙◌, subst, append_assoc}
use Rattle.std.proofs.lemmas.Grind.{common_steps}
use Rattle.std.proofs.Common.{arith}
use Rattle.std.proofs.lemmas.List.{take_more}
use Rattle.dash_base.specs.declared.id.HartId.{HartId}
use Rattle.dash_base.specs.declared.topology.Topology.{Topology}
use Rattle.elf_load.specs.Image.{ImageView}
use Rattle.dash_event.specs.declared.access.Access.{Access}
use Rattle.dash_event.specs.declared.step_record.StepRecord.{StepRecord}
use Rattle.dash_base.specs.declared.need.Need.{Need}
use Rattle.flat_model.specs.State.{FlatState, opening_state}
use Rattle.flat_model.specs.Step.{console_after}
use Rattle.flat_model.specs.Run.{IsFlatStopped}
use Rattle.flat_model.specs.Driven.{opens, passes, steps}
use Rattle.flat_model.specs.Represents.{MachineView, Represents, IsDone}
use Rattle.flat_model.specs.FlatEnd.{access_of, accesses_of, IsFlatEnd, IsReached}

accesses_push : (rs : List StepRecord) (r : StepRecord) → accesses_of (rs ++ r ∷ []) ≡ accesses_of rs ++ access_of r
accesses_push [] r = grind (arith, common_steps)
accesses_push (x ∷ rs) r =
    ap (λ xs. access_of x ++ xs) (accesses_push rs r) ∙ sym (append_assoc (access_of x) (accesses_of rs) (access_of r))

pub begun : (image : ImageView) (t : Topology) (m : MachineView) (accesses : List Access) (console : List ℕ) → Represents t m (opening_state image t)
    → accesses ≡ [] → console ≡ [] → IsReached image t [] m accesses console
begun image t m accesses console held no_access no_byte = record {
  records = [];
  state = opening_state image t;
  driven = opens;
  accesses_are = no_access;
  console_is = no_byte;
  held = held;
}

pub passed : (image : ImageView) (t : Topology) (order : List ℕ) (h : ℕ) (m after : MachineView) (accesses : List Access) (console : List ℕ)
    → after ≡ m → ((s : FlatState) → Represents t m s → IsFlatStopped image t s h)
    → IsReached image t order m accesses console → IsReached image t (order ++ h ∷ []) after accesses console
passed image t order h m after accesses console same idle reached = record {
  records = reached.records;
  state = reached.state;
  driven = passes h reached.driven (idle reached.state reached.held);
  accesses_are = reached.accesses_are;
  console_is = reached.console_is;
  held = (let held_by : MachineView → Type 0 = λ v. Represents t v reached.state in subst held_by (sym same) reached.held);
}

pub stepped : (image : ImageView) (t : Topology) (order : List ℕ) (h : ℕ) (m after : MachineView) (need : Need) (pc : ℕ) (r : StepRecord)
    → (accesses accesses' : List Access) (console console' : List ℕ)
    → ((s : FlatState) → Represents t m s → IsDone image t s h need pc r after)
    → accesses' ≡ accesses ++ access_of r → console' ≡ console_after r console
    → IsReached image t order m accesses console → IsReached image t (order ++ h ∷ []) after accesses' console'
stepped image t order h m after need pc r accesses accesses' console console' done more_accesses more_console reached =
    let did : IsDone image t reached.state h need pc r after = done reached.state reached.held in
    record {
      records = reached.records ++ r ∷ [];
      state = did.new;
      driven = steps h r did.new reached.driven did.does;
      accesses_are =
          more_accesses ∙ ap (λ xs. xs ++ access_of r) reached.accesses_are ∙ sym (accesses_push reached.records r);
      console_is = more_console ∙ ap (console_after r) reached.console_is ∙ ap (λ s. s.console) (sym did.does.step.after);
      held = did.held;
    }

order_more : (order : List HartId) (i : ℕ) (d : HartId) → i < length order
    → map (λ h. h.0) (take (i + 1) order) ≡ map (λ h. h.0) (take i order) ++ (get_or order i d).0 ∷ []
order_more order i d inside = ap (map (λ h. h.0)) (take_more order i d inside) ∙ grind (arith, common_steps)

pub ended : (image : ImageView) (t : Topology) (order : List ℕ) (m : MachineView) (accesses : List Access) (console : List ℕ)
    → IsReached image t order m accesses console → IsFlatEnd image t order accesses console m.harts
ended image t order m accesses console reached = record {
  records = reached.records;
  final = reached.state;
  driven = reached.driven;
  accesses_are = reached.accesses_are;
  console_is = reached.console_is;
  harts_are = reached.held.harts_are;
}

pub turned : (image : ImageView) (t : Topology) (order : List HartId) (i : ℕ) (d : HartId) (m : MachineView) (accesses : List Access) (console : List ℕ)
    → i < length order → IsReached image t (map (λ h. h.0) (take i order) ++ (get_or order i d).0 ∷ []) m accesses console
    → IsReached image t (map (λ h. h.0) (take (i + 1) order)) m accesses console
turned image t order i d m accesses console inside reached =
    let reached_by : List ℕ → Type 0 = λ hs. IsReached image t hs m accesses console in
    subst reached_by (sym (order_more order i d inside)) reached
