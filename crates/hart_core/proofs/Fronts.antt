-- A hart's front: what it is where the hart rests and where it goes on, and what it makes of the hart.
use Rattle.std.proofs.Common.{◌≡◌, ◌↔◌, ◌∙◌, ℕ, Bool, true, false, ap, sym, subst, refl}
use Rattle.dash_base.specs.declared.topology.Topology.{Topology}
use Rattle.elf_load.specs.Image.{ImageView}
use Rattle.hart_core.specs.declared.found.Found.{Found}
use Rattle.hart_core.specs.declared.front.Front.{Front}
use Rattle.dash_base.specs.declared.need.Need.{Need}
use Rattle.dash_base.specs.declared.need.Need.TheVariants.{Rest}
use Rattle.hart_core.specs.HartState.{HartState, can_go_on}
use Rattle.hart_core.specs.Meaning.{IsFound, need_at, after_need, Needs, NeedsIf, Does, IsNext, IsFront, IsFinished}
use Rattle.hart_core.proofs.Needed.{never_rest}
use Rattle.hart_core.proofs.Unique.{does_next}

rests_or_goes : (t : Topology) (h : HartState) → can_go_on t h ≡ false → can_go_on t h ≡ true → ⊥
rests_or_goes t h rests goes = cc

pub front_at_rest : (image : ImageView) (t : Topology) (h : HartState) (found : Found) → can_go_on t h ≡ false → IsFront image t h (record { found = found; need = Rest })
front_at_rest image t h found rests = record {
  next = subst (λ b. NeedsIf b image t h Rest) (sym rests) refl;
  found = λ goes. absurd (rests_or_goes t h rests goes);
  need = λ goes. absurd (rests_or_goes t h rests goes);
}

pub front_found : (image : ImageView) (t : Topology) (h : HartState) (found : Found) (need : Need) → can_go_on t h ≡ true → IsFound image h.pc found → need ≡ need_at image t h found → IsFront image t h (record { found = found; need = need })
front_found image t h found need goes is_found is =
    let needs : Needs image t h need = record { goes = goes; found = found; is_found = is_found; needs = is } in
    record {
      next = subst (λ b. NeedsIf b image t h need) (sym goes) needs;
      found = λ g. is_found;
      need = λ g. is;
    }

-- what becomes of a hart that does its front
pub front_does : (image : ImageView) (t : Topology) (h k : HartState) (f : Front) (x : ℕ) → can_go_on t h ≡ true → IsFront image t h f → k ≡ after_need h f.found f.need x → (need : Need) → IsNext image t h need → Does image t h need x k
front_does image t h k f x goes front after = does_next image t h k f.found x goes (front.found goes) (after ∙ ap (λ n. after_need h f.found n x) (front.need goes))

pub front_finishes : (image : ImageView) (t : Topology) (h k : HartState) (f : Front) (x : ℕ) → can_go_on t h ≡ true → IsFront image t h f → k ≡ after_need h f.found f.need x → IsFinished image t h x k
front_finishes image t h k f x goes front after = record { need = f.need; does = front_does image t h k f x goes front after f.need front.next }

-- a front is a rest just where the hart rests
rests_by : (image : ImageView) (t : Topology) (h : HartState) (need : Need) (b : Bool) → can_go_on t h ≡ b → NeedsIf b image t h need → (need ≡ Rest) ↔ (can_go_on t h ≡ false)
rests_by image t h need true goes next = (λ e. absurd (never_rest image t h (subst (λ n. Needs image t h n) e next)), λ rests. absurd (rests_or_goes t h rests goes))
rests_by image t h need false rests next = (λ e. rests, λ same. next)

pub front_rests : (image : ImageView) (t : Topology) (h : HartState) (f : Front) → IsFront image t h f → (f.need ≡ Rest) ↔ (can_go_on t h ≡ false)
front_rests image t h f front = rests_by image t h f.need (can_go_on t h) refl front.next
