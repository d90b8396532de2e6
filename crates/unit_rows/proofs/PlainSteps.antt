-- Instructions that access no word: their rows, and when a fence can't retire.
use Rattle.std.proofs.Common.{◌≡◌, ◌⊎◌, ℕ, ◌<◌, ◌||◌, Bool, true, false, not, [], slice_index_or, refl, sym, subst, inl, inr}
use Rattle.dash_base.specs.declared.end.End.{End}
use Rattle.dash_base.specs.declared.id.HartId.{HartId}
use Rattle.dash_base.specs.declared.need.Need.TheVariants as needed
use Rattle.dash_event.specs.declared.event.Kind.TheVariants as kind
use Rattle.fence_release.specs.Conditions.{is_drained}
use Rattle.dash_model.specs.Config.{Config}
use Rattle.dash_model.specs.Part.{Part}
use Rattle.dash_model.specs.HartGuards.{Drained}
use Rattle.dash_model.specs.Guard.{Guard}
use Rattle.dash_model.specs.Row.{row}
use Rattle.unit_rows.specs.declared.choice.Choice.TheVariants.{Step}
use Rattle.unit_rows.specs.declared.parts.Local.{Local}
use Rattle.unit_rows.specs.Shown.{PartsView, hart_at, Shows, AreSized}
use Rattle.unit_rows.specs.Steps.{HartNeeds, Retired}
use Rattle.unit_rows.specs.Rows.{DoesChoice, Cannot}
use Rattle.unit_rows.proofs.Drained.{drained_shown, drained_back}
use Rattle.unit_rows.proofs.Retiring.{effect, part_needs, shown_by, plain_step}
use Rattle.unit_rows.proofs.StepTold.{step_told}

pub does_alu : (w : Config) (c k pc : ℕ) (g : HartId) (v z : PartsView) → Retired w v z k 0 pc → g.0 ≡ hart_at w c k → k < w.top.harts → AreSized w c v → HartNeeds w v k needed.Alu → DoesChoice w c (Step k) (kind.Alu g pc) v z []
unfolding Guard row
does_alu w c k pc g v z r e low sized n = record {
  is_of = e;
  does = record { done = effect needed.Alu r.core; happens = λ p s. let q = plain_step w c k g.0 pc needed.Alu v z p r e low sized n s in record { guard = q.at; shows = q.shows; sent_is = refl } };
}

pub does_put : (w : Config) (c k pc byte : ℕ) (g : HartId) (v z : PartsView) → Retired w v z k 0 pc → g.0 ≡ hart_at w c k → k < w.top.harts → AreSized w c v → HartNeeds w v k (needed.Put byte) → DoesChoice w c (Step k) (kind.Put g pc byte) v z []
unfolding Guard row
does_put w c k pc byte g v z r e low sized n = record {
  is_of = e;
  does = record { done = effect (needed.Put byte) r.core; happens = λ p s. let q = plain_step w c k g.0 pc (needed.Put byte) v z p r e low sized n s in record { guard = q.at; shows = q.shows; sent_is = refl } };
}

pub does_stop : (w : Config) (c k pc : ℕ) (end : End) (g : HartId) (v z : PartsView) → Retired w v z k 0 pc → g.0 ≡ hart_at w c k → k < w.top.harts → AreSized w c v → HartNeeds w v k (needed.Stop end) → DoesChoice w c (Step k) (kind.Stop g pc end) v z []
unfolding Guard row
does_stop w c k pc end g v z r e low sized n = record {
  is_of = e;
  does = record { done = effect (needed.Stop end) r.core; happens = λ p s. let q = plain_step w c k g.0 pc (needed.Stop end) v z p r e low sized n s in record { guard = q.at; shows = q.shows; sent_is = refl } };
}

-- a fence passes where it doesn't wait, or where its hart is drained
passes : (w : Config) (c k h : ℕ) (waits : Bool) (v : PartsView) (x : Local) (p : Part) → h ≡ hart_at w c k → k < w.top.harts → Shows w c v p → slice_index_or v.locals k x ≡ x → (not waits || is_drained k x.buffer v.acks) ≡ true → (waits ≡ false) ⊎ Drained h p
passes w c k h false v x p e low s is may = inl refl
passes w c k h true v x p e low s is may = inr (subst (λ i. Drained i p) (sym e) (drained_shown w c k v x p low s (shown_by w c v k x p low s is) may))

pub does_fence : (w : Config) (c k pc : ℕ) (waits : Bool) (g : HartId) (v z : PartsView) (x : Local) → Retired w v z k 0 pc → g.0 ≡ hart_at w c k → k < w.top.harts → AreSized w c v → HartNeeds w v k (needed.Fence waits)
    → x ≡ slice_index_or v.locals k x → (not waits || is_drained k x.buffer v.acks) ≡ true → DoesChoice w c (Step k) (kind.Fence g pc) v z []
unfolding Guard row
does_fence w c k pc waits g v z x r e low sized n is may = record {
  is_of = e;
  does = record {
    done = effect (needed.Fence waits) r.core;
    happens = λ p s.
        let q = plain_step w c k g.0 pc (needed.Fence waits) v z p r e low sized n s in
        record { guard = record { waits = waits; next = q.at; passes = passes w c k g.0 waits v x p e low s (sym is) may }; shows = q.shows; sent_is = refl };
  };
}

-- and it can't where neither is so
passes_not : (w : Config) (c k : ℕ) (waits : Bool) (v : PartsView) (x : Local) (p : Part) → k < w.top.harts → Shows w c v p → slice_index_or v.locals k x ≡ x → (not waits || is_drained k x.buffer v.acks) ≡ false → (waits ≡ false) ⊎ Drained (hart_at w c k) p → ⊥
passes_not w c k false v x p low s is may told = cc
passes_not w c k true v x p low s is may (inl e) = cc
passes_not w c k true v x p low s is may (inr d) = let e = drained_back w c k v x p low s (shown_by w c v k x p low s is) d in cc

pub fence_cannot : (w : Config) (c k : ℕ) (waits : Bool) (v : PartsView) (x : Local) → k < w.top.harts → x ≡ slice_index_or v.locals k x → HartNeeds w v k (needed.Fence waits) → (not waits || is_drained k x.buffer v.acks) ≡ false → Cannot w c v (Step k)
fence_cannot w c k waits v x low is n may p s e =
    passes_not w c k waits v x p low s (sym is) may (step_told w c k (needed.Fence waits) p e.event e.done e.is_of e.guard (part_needs w c v k (needed.Fence waits) x p low s n))
