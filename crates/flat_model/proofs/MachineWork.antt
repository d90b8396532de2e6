-- The work that is left falls with each instruction.
use Rattle.std.proofs.Common.{◌≡◌, ◌<◌, ℕ, ◌+◌, Bool, true, List, length, slice_get, slice_set, Some, sum_by, get_or, ap, sym, subst, arith}
use Rattle.std.proofs.lemmas.List.Sums.{sum_by-set}
use Rattle.std.proofs.lemmas.Option.{get_or_from_slice_get, slice_get_within}
use Rattle.dash_base.specs.declared.end.End.TheVariants.{Trapped}
use Rattle.dash_base.specs.declared.end.Trap.{Trap}
use Rattle.dash_base.specs.declared.topology.Topology.{Topology}
use Rattle.elf_load.specs.Image.{ImageView}
use Rattle.hart_core.proofs.LawsOffered.{retires}
use Rattle.hart_core.specs.HartState.{HartState, can_go_on}
use Rattle.hart_core.specs.Meaning.{Needs, NeedsIf, IsNext, Does}
use Rattle.dash_base.specs.declared.need.Need.{Need}
use Rattle.dash_base.specs.declared.need.Need.TheVariants.{Stop}
use Rattle.flat_model.specs.Represents.{work_left}

pub is_next : (image : ImageView) (t : Topology) (h : HartState) (need : Need) → Needs image t h need → IsNext image t h need
is_next image t h need needs =
    let next_if : Bool → Type 0 = λ goes. NeedsIf goes image t h need in subst next_if (sym needs.goes) needs

-- ---- one hart

trap_falls : (t : Topology) (h k : HartState) (cause : Trap) (value : ℕ) → can_go_on t h ≡ true
    → k.end ≡ Trapped cause value → k.retired ≡ h.retired → work_left t k < work_left t h
trap_falls t h k cause value goes end retired = grind arith

retire_falls : (t : Topology) (h k : HartState) → can_go_on t h ≡ true → k.retired ≡ h.retired + 1 → work_left t k < work_left t h
retire_falls t h k goes retired = grind arith

pub work_falls : (image : ImageView) (t : Topology) (h k : HartState) (need : Need) (x : ℕ) → Does image t h need x k
    → work_left t k < work_left t h
work_falls image t h k (Stop (Trapped cause value)) x does =
    trap_falls t h k cause value does.goes (ap (λ s. s.end) does.after) (ap (λ s. s.retired) does.after)
work_falls image t h k need x does = retire_falls t h k does.goes (retires image t h k need x does)

-- ---- all harts

pub sum_falls : (t : Topology) (xs : List HartState) (i : ℕ) (h k : HartState) → slice_get xs i ≡ Some h
    → work_left t k < work_left t h → sum_by (work_left t) (slice_set xs i k) < sum_by (work_left t) xs
sum_falls t xs i h k was falls =
    let within : i < length xs = slice_get_within xs i h was in
    let here : get_or xs i h ≡ h = get_or_from_slice_get xs i h h was in
    let sums = sum_by-set (work_left t) xs i k h within in
    let sums_here = rw here at sums in
    omega (arith, sums_here, falls)
