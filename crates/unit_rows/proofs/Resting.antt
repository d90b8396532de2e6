-- A hart that rests does no instruction, and one that doesn't has a need.
use Rattle.std.proofs.Common.{◌≡◌, ◌≢◌, ◌↔◌, ℕ, ◌<◌, Bool, true, false, length, slice_index_or, refl, sym, ap, subst}
use Rattle.dash_base.specs.declared.need.Need.{Need}
use Rattle.dash_base.specs.declared.need.Need.TheVariants.{Rest}
use Rattle.dash_event.specs.declared.event.Kind.{Kind}
use Rattle.dash_event.specs.declared.event.Kind.TheVariants as kind
use Rattle.hart_core.specs.HartState.{HartState, can_go_on}
use Rattle.hart_core.specs.Meaning.{Needs, IsNext, NeedsIf}
use Rattle.dash_model.specs.Config.{Config}
use Rattle.dash_model.specs.Part.{Part}
use Rattle.dash_model.specs.HartRows.{HartEffect}
use Rattle.dash_model.specs.Guard.{Guard}
use Rattle.unit_rows.specs.declared.choice.Choice.TheVariants.{Step}
use Rattle.unit_rows.specs.declared.parts.Local.{Local}
use Rattle.unit_rows.specs.Shown.{PartsView, hart_at}
use Rattle.unit_rows.specs.Steps.{HartNeeds}
use Rattle.unit_rows.specs.Choices.{IsStepOf}
use Rattle.unit_rows.specs.Rows.{Cannot}
use Rattle.unit_rows.proofs.Retiring.{one_local, shown_by}

goes_at : (w : Config) (h k : ℕ) (p : Part) → h ≡ k → can_go_on w.top (p.harts h).core ≡ true → can_go_on w.top (p.harts k).core ≡ true
goes_at w h k p is goes = subst (λ i. can_go_on w.top (p.harts i).core ≡ true) is goes

-- the hart of an event of an instruction goes on
pub step_goes : (w : Config) (c k : ℕ) (p : Part) (e : Kind) (d : HartEffect) → IsStepOf (hart_at w c k) e → Guard w c e d p → can_go_on w.top (p.harts (hart_at w c k)).core ≡ true
unfolding Guard
step_goes w c k p (kind.Alu g pc) d is guard = goes_at w g.0 (hart_at w c k) p is guard.retires.does.goes
step_goes w c k p (kind.Fence g pc) d is guard = goes_at w g.0 (hart_at w c k) p is guard.next.retires.does.goes
step_goes w c k p (kind.Hint g pc slot) d is guard = goes_at w g.0 (hart_at w c k) p is guard.next.retires.does.goes
step_goes w c k p (kind.Put g pc byte) d is guard = goes_at w g.0 (hart_at w c k) p is guard.retires.does.goes
step_goes w c k p (kind.Stop g pc end) d is guard = goes_at w g.0 (hart_at w c k) p is guard.retires.does.goes
step_goes w c k p (kind.Load a level) d is guard = goes_at w a.hart.0 (hart_at w c k) p is guard.next.does.goes
step_goes w c k p (kind.Store a) d is guard = goes_at w a.hart.0 (hart_at w c k) p is guard.next.does.goes
step_goes w c k p (kind.Rmw a line version) d is guard = goes_at w a.hart.0 (hart_at w c k) p is guard.next.does.goes
step_goes w c k p (kind.ScFail a) d is guard = goes_at w a.hart.0 (hart_at w c k) p is guard.next.does.goes
step_goes w c k p (kind.LockSend g msg) d is guard = goes_at w g.0 (hart_at w c k) p is guard.needs.goes
step_goes w c k p e d is guard = absurd is

-- no event of a hart that rests may happen
pub rest_cannot : (w : Config) (c k : ℕ) (need : Need) (v : PartsView) (x : Local) → k < w.top.harts → x ≡ slice_index_or v.locals k x → (need ≡ Rest) ↔ (can_go_on w.top x.core ≡ false) → need ≡ Rest → Cannot w c v (Step k)
rest_cannot w c k need v x low is rest none p s e =
    let goes = step_goes w c k p e.event e.done e.is_of e.guard in
    let same : can_go_on w.top (p.harts (hart_at w c k)).core ≡ can_go_on w.top x.core = ap (can_go_on w.top) (shown_by w c v k x p low s (sym is)).core in
    let stays : can_go_on w.top x.core ≡ false = rest.0 none in
    cc

needs_if : (w : Config) (need : Need) (h : HartState) (b : Bool) → can_go_on w.top h ≡ b → (can_go_on w.top h ≡ false → need ≡ Rest) → need ≢ Rest → NeedsIf b w.image w.top h need → Needs w.image w.top h need
needs_if w need h true is rest awake n = n
needs_if w need h false is rest awake n = absurd (awake (rest is))

-- what a hart that doesn't rest needs
pub needs_now : (w : Config) (k : ℕ) (need : Need) (v : PartsView) (x : Local) → k < length v.locals → x ≡ slice_index_or v.locals k x → (need ≡ Rest) ↔ (can_go_on w.top x.core ≡ false) → need ≢ Rest → IsNext w.image w.top x.core need → HartNeeds w v k need
needs_now w k need v x low is rest awake next d =
    subst (λ (y : Local). Needs w.image w.top y.core need) (sym (one_local v k x low is d)) (needs_if w need x.core (can_go_on w.top x.core) refl rest.1 awake next)
