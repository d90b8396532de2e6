-- When the code's parts let a hart do an atomic operation that writes, and what an enabled one tells of them.
use Rattle.std.proofs.Common.{◌≡◌, ◌≢◌, ◌⊎◌, ℕ, ◌<◌, ◌&&◌, Bool, true, false, not, Option, None, Some, is_some, slice_index_or, refl, sym, ap, ◌∙◌, subst, inl, inr}
use Rattle.std.specs.Prelude.{IfSome, IfNone}
use Rattle.dash_base.specs.declared.id.WordAddr.{WordAddr}
use Rattle.dash_base.specs.declared.instr.Labels.{Labels}
use Rattle.dash_base.specs.declared.line.Line.{Line}
use Rattle.dash_base.specs.declared.ops.AmoOp.{AmoOp}
use Rattle.dash_base.specs.declared.ops.AmoOp.TheVariants.{Sc}
use Rattle.dash_base.specs.declared.need.Need.TheVariants as needed
use Rattle.hart_core.specs.Meaning.{Needs}
use Rattle.write_buffer.specs.Look.{newest_of}
use Rattle.ack_counter.specs.View.{Counted, entry_at}
use Rattle.fence_release.specs.Conditions.{is_free_to_commit}
use Rattle.fence_release.proofs.LawsOffered.{commit_holds, drained_tells}
use Rattle.snoop_bus.specs.View.{copy_of, IsOneMap}
use Rattle.dash_model.specs.Config.{Config, line_at}
use Rattle.dash_model.specs.Cell.{NoAcks}
use Rattle.dash_model.specs.Part.{Part}
use Rattle.dash_model.specs.HartGuards.{HasReserved}
use Rattle.unit_rows.specs.declared.choice.Choice.TheVariants.{Step}
use Rattle.unit_rows.specs.declared.parts.Local.{Local}
use Rattle.unit_rows.specs.AtomicFits.{AtomicFits, HartFails}
use Rattle.snoop_bus.specs.View.{owns_alone}
use Rattle.unit_rows.specs.LineNeeds.{is_sc, is_reserved, fails}
use Rattle.unit_rows.specs.Shown.{PartsView, hart_at, acks_by, reserved_by, ShowsHart, Shows, AreSized}
use Rattle.unit_rows.specs.Steps.{HartNeeds}
use Rattle.unit_rows.specs.Rows.{Cannot}
use Rattle.unit_rows.proofs.AcksOn.{pending_not}
use Rattle.unit_rows.proofs.AtomicRows.{has_reserved}
use Rattle.unit_rows.proofs.CommitFits.{owned_has_copy}
use Rattle.unit_rows.proofs.Drained.{drained_back}
use Rattle.unit_rows.proofs.LineNeeds.{is_reserved_by}
use Rattle.unit_rows.proofs.Retiring.{same_local, part_needs, shown_by}
use Rattle.unit_rows.proofs.StateM.{in_m-owns_alone}
use Rattle.unit_rows.proofs.StepTold.{RmwTells, ScTells, step_told}

-- what the code's tests tell
pub fits_if : (w : Config) (v : PartsView) (k : ℕ) (word : WordAddr) (labels : Labels) (x : Local) (o : Option Line) → x ≡ slice_index_or v.locals k x → owns_alone v.bus k (line_at w word.0) ≡ true → is_free_to_commit labels.rl word.0 (line_at w word.0) k x.buffer v.acks ≡ true
    → o ≡ copy_of v.bus (line_at w word.0) → IfSome o (λ copy. AtomicFits w v k word labels copy)
fits_if w v k word labels x None is owns free copy = tt
fits_if w v k word labels x (Some d) is owns free copy = record { local = x; is_local = is; state_m = owns; free = free; copy_is = sym copy }

pub no_copy : (w : Config) (v : PartsView) (k : ℕ) (word : WordAddr) (labels : Labels) (o : Option Line) → o ≡ copy_of v.bus (line_at w word.0) → IfNone o ((copy : Line) → AtomicFits w v k word labels copy → ⊥)
no_copy w v k word labels None copy = λ d f. let bad : None ≡ Some d = copy ∙ f.copy_is in absurd (cc)
no_copy w v k word labels (Some e) copy = tt

pub not_owned : (w : Config) (v : PartsView) (k : ℕ) (word : WordAddr) (labels : Labels) → owns_alone v.bus k (line_at w word.0) ≡ false → (copy : Line) → AtomicFits w v k word labels copy → ⊥
not_owned w v k word labels owns d f = let bad : true ≡ false = sym f.state_m ∙ owns in absurd (cc)

pub not_free : (w : Config) (c k : ℕ) (v : PartsView) (word : WordAddr) (labels : Labels) (x : Local) → k < w.top.harts → AreSized w c v → x ≡ slice_index_or v.locals k x → is_free_to_commit labels.rl word.0 (line_at w word.0) k x.buffer v.acks ≡ false → (copy : Line) → AtomicFits w v k word labels copy → ⊥
not_free w c k v word labels x low sized is free d f =
    let same : x ≡ f.local = same_local v k x f.local (subst (λ n. k < n) (sym sized.locals) low) is f.is_local in
    let bad : true ≡ false = sym f.free ∙ ap (λ (y : Local). is_free_to_commit labels.rl word.0 (line_at w word.0) k y.buffer v.acks) (sym same) ∙ free in
    absurd (cc)

-- what an enabled operation tells of the code's parts
record Told (w : Config) (v : PartsView) (k : ℕ) (word : WordAddr) (labels : Labels) : Type 0 where
  copy : Line
  fits : AtomicFits w v k word labels copy

no_entry : (w : Config) (c : ℕ) (o : Option Counted) → acks_by w c o ≡ NoAcks → o ≡ None
no_entry w c None e = refl
no_entry w c (Some x) e = absurd (let bad : is_some (Some x) ≡ false = pending_not w c (Some x) e in cc)

told_by : (w : Config) (c k : ℕ) (word : WordAddr) (o : AmoOp) (labels : Labels) (v : PartsView) (x : Local) (p : Part) (copy : Option Line) → k < w.top.harts → AreSized w c v → IsOneMap v.bus → x ≡ slice_index_or v.locals k x → Shows w c v p → ShowsHart w v.bus k x (p.harts (hart_at w c k))
    → copy_of v.bus (line_at w word.0) ≡ copy → owns_alone v.bus k (line_at w word.0) ≡ true → RmwTells w (hart_at w c k) word o labels p → Told w v k word labels
told_by w c k word o labels v x p None low sized map is shows s found owns t = absurd (owned_has_copy v.bus k (line_at w word.0) owns found)
told_by w c k word o labels v x p (Some d) low sized map is shows s found owns t = record {
  copy = d;
  fits = record {
    local = x;
    is_local = is;
    state_m = owns;
    free = commit_holds labels.rl word.0 (line_at w word.0) k x.buffer v.acks (record {
      not_pending = no_entry w c (entry_at v.acks (line_at w word.0)) (sym (shows.acks (line_at w word.0)) ∙ t.not_pending);
      unbuffered = ap (newest_of word.0) (sym s.buffer) ∙ t.unbuffered;
      drained = λ r. drained_tells k x.buffer v.acks (drained_back w c k v x p low shows s (t.release r));
    });
    copy_is = found;
  };
}

told_of : (w : Config) (c k : ℕ) (word : WordAddr) (o : AmoOp) (labels : Labels) (v : PartsView) (x : Local) (p : Part) → k < w.top.harts → AreSized w c v → IsOneMap v.bus → x ≡ slice_index_or v.locals k x → Shows w c v p → ShowsHart w v.bus k x (p.harts (hart_at w c k))
    → HasReserved o word.0 (reserved_by x.reserved) → RmwTells w (hart_at w c k) word o labels p ⊎ ScTells w c (hart_at w c k) word o p → Told w v k word labels
told_of w c k word o labels v x p low sized map is shows s reserved (inl t) =
    told_by w c k word o labels v x p (copy_of v.bus (line_at w word.0)) low sized map is shows s refl (sym (in_m-owns_alone w c k (line_at w word.0) v p low sized.bus_harts map shows) ∙ t.owner) t
told_of w c k word o labels v x p low sized map is shows s reserved (inr t) = absurd (t.unreserved (s.reserved ∙ subst (λ y. HasReserved y word.0 (reserved_by x.reserved)) t.op_is reserved))

-- no operation can write where the code's parts don't let it
pub atomic_cannot : (w : Config) (c k operand : ℕ) (o : AmoOp) (word : WordAddr) (labels : Labels) (v : PartsView) (x : Local) → k < w.top.harts → AreSized w c v → IsOneMap v.bus → x ≡ slice_index_or v.locals k x → HartNeeds w v k (needed.Rmw word o operand labels) → HartFails v k o word false
    → ((copy : Line) → AtomicFits w v k word labels copy → ⊥) → Cannot w c v (Step k)
atomic_cannot w c k operand o word labels v x low sized map is needs reserves none p shows e =
    let free : fails o x.reserved word ≡ false = ap (λ (y : Local). fails o y.reserved word) is ∙ reserves x in
    let told = told_of w c k word o labels v x p low sized map is shows (shown_by w c v k x p low shows (sym is)) (has_reserved o x.reserved word free)
    (step_told w c k (needed.Rmw word o operand labels) p e.event e.done e.is_of e.guard (part_needs w c v k (needed.Rmw word o operand labels) x p low shows needs)) in
    none told.copy told.fits

-- what fails is an SC, and its word is not reserved
pub fails_as_sc : (o : AmoOp) (r : Option WordAddr) (word : WordAddr) → fails o r word ≡ true → o ≡ Sc
fails_as_sc Sc r word e = refl
fails_as_sc o r word e = absurd (cc)

both_right : (a b : Bool) → (a && b) ≡ true → b ≡ true
both_right true b e = e
both_right false b e = absurd (cc)

pub fails_unreserved : (o : AmoOp) (r : Option WordAddr) (word : WordAddr) → fails o r word ≡ true → reserved_by r ≢ Some word.0
fails_unreserved o r word e held =
    let bad : not true ≡ true = ap not (sym (is_reserved_by r word held)) ∙ both_right (is_sc o) (not (is_reserved r word)) e in
    absurd (cc)

-- so its hart needs an SC
pub needs_sc : (w : Config) (v : PartsView) (k : ℕ) (o : AmoOp) (word : WordAddr) (operand : ℕ) (labels : Labels) → HartFails v k o word true → HartNeeds w v k (needed.Rmw word o operand labels) → HartNeeds w v k (needed.Rmw word Sc operand labels)
needs_sc w v k o word operand labels fail n = λ d. subst (λ y. Needs w.image w.top (slice_index_or v.locals k d).core (needed.Rmw word y operand labels)) (fails_as_sc o (slice_index_or v.locals k d).reserved word (fail d)) (n d)
