-- What a program did to its lists is a step of the state that they hold.
use Rattle.std.proofs.Common.{◌≡◌, ◌↔◌, ◌<◌, ℕ, ◌+◌, inl, inr, ◌==◌, not, Bool, true, false, Option, Some, slice_get, get_or, ap, sym, ◌∙◌, subst, refl, arith}
use Rattle.std.proofs.lemmas.Option.{slice_get_read}
use Rattle.dash_base.specs.declared.id.WordAddr.{WordAddr}
use Rattle.dash_base.specs.declared.instr.Labels.{Labels}
use Rattle.dash_base.specs.declared.ops.AmoOp.{AmoOp}
use Rattle.dash_base.specs.declared.ops.AmoOp.TheVariants.{Sc}
use Rattle.dash_base.specs.declared.topology.Topology.{Topology}
use Rattle.elf_load.specs.Image.{ImageView}
use Rattle.dash_event.specs.declared.access.Access.{Access}
use Rattle.dash_event.specs.declared.step_record.StepRecord.{StepRecord}
use Rattle.hart_core.specs.Access.{IsProper}
use Rattle.hart_core.specs.HartState.{HartState, can_go_on}
use Rattle.hart_core.specs.Meaning.{Needs, NeedsIf, IsNext, Does}
use Rattle.dash_base.specs.Places.{hart_count}
use Rattle.dash_base.specs.declared.need.Need.{Need}
use Rattle.dash_base.specs.declared.need.Need.TheVariants.{Ask, Rest, Rmw}
use Rattle.flat_model.specs.State.{FlatState}
use Rattle.dash_event.specs.Offered.{offered}
use Rattle.flat_model.specs.Step.{record_of, content, flat_state_after}
use Rattle.dash_event.specs.Effects.{hart_of, answer_of}
use Rattle.flat_model.specs.Run.{IsBlocked, IsFlatStopped}
use Rattle.flat_model.specs.Driven.{succeeds_on}
use Rattle.flat_model.specs.Represents.{MachineView, Represents, IsSized, IsDone}
use Rattle.flat_model.specs.Change.{FitsRecord, IsCarriedOut, IsDue, is_blocked, can_succeed}
use Rattle.flat_model.proofs.MachineLists.{hart_is, reservation_is, held_after}
use Rattle.flat_model.proofs.MachineNeeds.{possible, own_record, fits}

-- the hart that was found at a place is that of the state
same_hart : (t : Topology) (m : MachineView) (s : FlatState) (h : ℕ) (x : HartState) → Represents t m s → h < hart_count t
    → slice_get m.harts h ≡ Some x → x ≡ s.harts h
same_hart t m s h x held inside found = let is = hart_is t m s h held inside in cc

pub done_from : (image : ImageView) (t : Topology) (m after : MachineView) (h : ℕ) (need : Need) (pc : ℕ) (r : StepRecord) (s : FlatState)
    → h < hart_count t → IsDue image t m h need pc r → IsCarriedOut image t h r m after → Represents t m s
    → IsDone image t s h need pc r after
done_from image t m after h need pc r s inside due carried held =
    let same : due.hart ≡ s.harts h = same_hart t m s h due.hart held inside due.is_hart in
    let before : carried.hart.before ≡ s.harts h = same_hart t m s h carried.hart.before held inside carried.hart.was in
    let needs_of : HartState → Type 0 = λ x. Needs image t x need in
    let does_of : HartState → Type 0 = λ x. Does image t x need (answer_of r) carried.hart.after in
    let recorded : r ≡ record_of h need (offered h ((s.harts h).retired + 1) need (content s need) (succeeds_on s h need)) =
    due.recorded s held ∙ ap (λ x. record_of h need (offered h (x.retired + 1) need (content s need) (succeeds_on s h need))) same in
    let own : h ≡ (hart_of r).0 = own_record h _ need _ _ ∙ ap (λ x. (hart_of x).0) (sym recorded) in
    record {
      new = flat_state_after s r carried.hart.after;
      does = record {
        step = record {
          in_range = inside;
          need = need;
          succeeds = succeeds_on s h need;
          possible = possible s h need (due.possible s held);
          recorded = recorded;
          next = carried.hart.after;
          does = subst does_of before (carried.hart.does need (subst needs_of (same ∙ sym before) due.needs));
          after = refl;
        };
        eager = refl;
      };
      need_is = refl;
      pc_is = due.pc_is ∙ ap (λ x. x.pc) same;
      held = held_after image t h r m after s own inside held carried;
    }

-- a hart that rests is idle, and so is one that asks in vain
pub rests_idle : (image : ImageView) (t : Topology) (m : MachineView) (h : ℕ) (x : HartState) (s : FlatState)
    → h < hart_count t → slice_get m.harts h ≡ Some x → can_go_on t x ≡ false → Represents t m s → IsFlatStopped image t s h
rests_idle image t m h x s inside found rests held =
    inl (ap (can_go_on t) (sym (same_hart t m s h x held inside found)) ∙ rests)

is_taken : (n : ℕ) → not (n == 0) ≡ true → n ≡ 0 → ⊥
is_taken n test zero = grind arith

waits : (image : ImageView) (t : Topology) (h : ℕ) (s : FlatState) (need : Need) → Needs image t (s.harts h) need
    → is_blocked s need ≡ true → IsBlocked image t s h
waits image t h s (Ask word value) needs vain = record {
  word = word;
  value = value;
  asks = needs;
  taken = is_taken (s.locks word.0) vain;
}
waits image t h s need needs vain = absurd (cc)

pub waits_idle : (image : ImageView) (t : Topology) (m : MachineView) (h : ℕ) (x : HartState) (need : Need) (s : FlatState)
    → h < hart_count t → slice_get m.harts h ≡ Some x → Needs image t x need → is_blocked s need ≡ true → Represents t m s → IsFlatStopped image t s h
waits_idle image t m h x need s inside found needs vain held =
    let needs_of : HartState → Type 0 = λ y. Needs image t y need in
    inr (waits image t h s need (subst needs_of (same_hart t m s h x held inside found) needs) vain)

-- an SC as the state lets it
granted_on : (s : FlatState) (h : ℕ) (word : WordAddr) (op : AmoOp) (operand : ℕ) (labels : Labels)
    → can_succeed op (s.reservations h) word.0 ≡ succeeds_on s h (Rmw word op operand labels)
granted_on s h word Sc operand labels = refl
granted_on s h word op operand labels = refl

pub granted_as : (t : Topology) (m : MachineView) (s : FlatState) (h : ℕ) (need : Need) (word : WordAddr) (op : AmoOp) (operand : ℕ) (labels : Labels) (x : Option ℕ) (result : Bool)
    → Represents t m s → h < hart_count t → need ≡ Rmw word op operand labels → x ≡ get_or m.reservations h x
    → result ≡ can_succeed op x word.0 → result ≡ succeeds_on s h need
granted_as t m s h need word op operand labels x result held inside is at same =
    same ∙ ap (λ r. can_succeed op r word.0) (at ∙ reservation_is t m s h x held inside)
    ∙ granted_on s h word op operand labels ∙ ap (λ n. succeeds_on s h n) (sym is)

goes_if : (goes : Bool) → (goes ≡ false → ⊥) → goes ≡ true
goes_if true other = refl
goes_if false other = absurd (other refl)

-- a hart that does not rest goes on
pub goes_on : (t : Topology) (h : HartState) (need : Need) → ((need ≡ Rest) ↔ (can_go_on t h ≡ false)) → (need ≡ Rest → ⊥)
    → can_go_on t h ≡ true
goes_on t h need rest other = goes_if (can_go_on t h) (λ stops. other (rest.1 stops))

pub needs_of_next : (image : ImageView) (t : Topology) (h : HartState) (need : Need) → can_go_on t h ≡ true → IsNext image t h need → Needs image t h need
needs_of_next image t h need goes next =
    let needs_if : Bool → Type 0 = λ b. NeedsIf b image t h need in subst needs_if goes next

pub recorded_from : (s : FlatState) (h number : ℕ) (need : Need) (r : StepRecord) (access : Option Access) (retired old : ℕ) (succeeds : Bool)
    → retired ≡ number → r ≡ record_of h need access → access ≡ offered h (retired + 1) need old succeeds → old ≡ content s need → succeeds ≡ succeeds_on s h need
    → r ≡ record_of h need (offered h (number + 1) need (content s need) (succeeds_on s h need))
recorded_from s h number need r access retired old succeeds same is offers same_old same_succeeds =
    is ∙ ap (record_of h need) offers ∙ ap (λ n. record_of h need (offered h (n + 1) need old succeeds)) same
    ∙ ap (λ w. record_of h need (offered h (number + 1) need w succeeds)) same_old
    ∙ ap (λ b. record_of h need (offered h (number + 1) need (content s need) b)) same_succeeds

pub fits_from : (t : Topology) (h number : ℕ) (need : Need) (r : StepRecord) (access : Option Access) (old : ℕ) (succeeds : Bool)
    → r ≡ record_of h need access → access ≡ offered h number need old succeeds → IsProper t need → FitsRecord t r
fits_from t h number need r access old succeeds is offers proper =
    let same : record_of h need (offered h number need old succeeds) ≡ r = sym (is ∙ ap (record_of h need) offers) in
    subst (FitsRecord t) same (fits t h number need old succeeds proper)

-- the hart at a place of the lists that were looked at
pub hart_found : (t : Topology) (v m : MachineView) (h : ℕ) (x : HartState) → v ≡ m → IsSized t m → h < hart_count t
    → x ≡ get_or v.harts h x → slice_get m.harts h ≡ Some x
hart_found t v m h x view sized inside at =
    slice_get_read m.harts (hart_count t) h x (sym sized.harts_count) inside (at ∙ ap (λ w. get_or w.harts h x) view)
