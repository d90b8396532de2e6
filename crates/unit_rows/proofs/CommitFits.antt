-- Commit is enabled only where the code's parts let the hart commit.
use Rattle.std.proofs.Common.{◌≡◌, ℕ, ◌<◌, true, false, Option, None, Some, ◌∷◌, slice_get, slice_index_or, sym, ap, ◌∙◌, subst}
use Rattle.snoop_bus.specs.Holding.{Holding, owner_in, copy_in}
use Rattle.snoop_bus.specs.View.{BusView, holding_at, copy_of, IsOneMap}
use Rattle.write_buffer.specs.declared.entry.Entry.{Entry as Stored}
use Rattle.dash_event.specs.declared.event.Kind.{Kind}
use Rattle.dash_event.specs.declared.event.Kind.TheVariants as kind
use Rattle.dash_model.specs.Config.{Config, line_at}
use Rattle.dash_model.specs.Part.{Part}
use Rattle.dash_model.specs.HartRows.{HartEffect}
use Rattle.dash_model.specs.HartGuards.{CommitFits as InTable}
use Rattle.dash_model.specs.Guard.{Guard}
use Rattle.dash_model.specs.Words.{in_m}
use Rattle.unit_rows.specs.declared.parts.Local.{Local}
use Rattle.unit_rows.specs.declared.choice.Choice.TheVariants.{Commit}
use Rattle.unit_rows.specs.Shown.{PartsView, hart_at, Shows, AreSized}
use Rattle.unit_rows.specs.Choices.{IsOf}
use Rattle.unit_rows.specs.Rows.{Enabled, Cannot}
use Rattle.snoop_bus.specs.View.{owns_alone}
use Rattle.unit_rows.proofs.OneHart.{shown_hart}
use Rattle.unit_rows.proofs.StateM.{owner_alone, in_m-owns_alone}

-- what an enabled commit tells of the code's parts, whose hart this is
record Told (w : Config) (v : PartsView) (k : ℕ) (x : Local) : Type 0 where
  oldest : Stored
  head : slice_get x.buffer.items 0 ≡ Some oldest
  state_m : owns_alone v.bus k (line_at w oldest.word.0) ≡ true

told_at : (w : Config) (c k number l version g : ℕ) (v : PartsView) (p : Part) (x : Local) → k < w.top.harts → AreSized w c v → IsOneMap v.bus → x ≡ slice_index_or v.locals k x → Shows w c v p → g ≡ hart_at w c k → InTable w c g number l version p → Told w v k x
told_at w c k number l version g v p x low sized map here shows is t =
    let s = shown_hart w c v p k x low sized shows here in
    let stores : x.buffer.items ≡ t.oldest ∷ t.others = sym s.buffer ∙ ap (λ y. (p.harts y).buffer) (sym is) ∙ t.buffer in
    let owner : in_m (hart_at w c k) (p.cells (line_at w t.oldest.word.0)).copy ≡ true = subst (λ y. in_m y (p.cells (line_at w t.oldest.word.0)).copy ≡ true) is (subst (λ y. in_m g (p.cells y).copy ≡ true) (sym t.line) t.owner) in
    record {
      oldest = t.oldest;
      head = ap (λ es. slice_get es 0) stores;
      state_m = sym (in_m-owns_alone w c k (line_at w t.oldest.word.0) v p low sized.bus_harts map shows) ∙ owner;
    }

told_by : (w : Config) (c k : ℕ) (v : PartsView) (p : Part) (x : Local) (e : Kind) (d : HartEffect) → k < w.top.harts → AreSized w c v → IsOneMap v.bus → x ≡ slice_index_or v.locals k x → Shows w c v p → IsOf w c (Commit k) e → Guard w c e d p → Told w v k x
unfolding Guard
told_by w c k v p x (kind.Commit g number l version) d low sized map here shows is guard = told_at w c k number l.0 version g.0 v p x low sized map here shows is guard
told_by w c k v p x e d low sized map here shows is guard = absurd is

told : (w : Config) (c k : ℕ) (v : PartsView) (p : Part) (x : Local) → k < w.top.harts → AreSized w c v → IsOneMap v.bus → x ≡ slice_index_or v.locals k x → Shows w c v p → Enabled w c (Commit k) p → Told w v k x
told w c k v p x low sized map here shows able = told_by w c k v p x able.event able.done low sized map here shows able.is_of able.guard

-- no store waits
pub no_store : (w : Config) (c k : ℕ) (v : PartsView) (x : Local) → k < w.top.harts → AreSized w c v → IsOneMap v.bus → x ≡ slice_index_or v.locals k x → slice_get x.buffer.items 0 ≡ None → Cannot w c v (Commit k)
no_store w c k v x low sized map here none p shows able = let t = told w c k v p x low sized map here shows able in let f : Some t.oldest ≡ None = sym t.head ∙ none in absurd (cc)

-- the hart is not in state M on the line of the oldest store
same_store : (x : Local) (e f : Stored) → slice_get x.buffer.items 0 ≡ Some e → slice_get x.buffer.items 0 ≡ Some f → e ≡ f
same_store x e f a b = let same : Some e ≡ Some f = sym a ∙ b in cc

pub not_in_m : (w : Config) (c k : ℕ) (v : PartsView) (x : Local) (e : Stored) → k < w.top.harts → AreSized w c v → IsOneMap v.bus → x ≡ slice_index_or v.locals k x → slice_get x.buffer.items 0 ≡ Some e → owns_alone v.bus k (line_at w e.word.0) ≡ false → Cannot w c v (Commit k)
not_in_m w c k v x e low sized map here head none p shows able =
    let t = told w c k v p x low sized map here shows able in
    let same : t.oldest ≡ e = same_store x t.oldest e t.head head in
    let f : true ≡ false = sym t.state_m ∙ ap (λ (y : Stored). owns_alone v.bus k (line_at w y.word.0)) same ∙ none in
    absurd (cc)

-- where there is an owner there is a copy
copy_by_owner : (k : ℕ) (o : Option Holding) → owner_in o ≡ Some k → copy_in o ≡ None → ⊥
copy_by_owner k None owner copy = absurd (cc)
copy_by_owner k (Some h) owner copy = absurd (cc)

pub owned_has_copy : (b : BusView) (k l : ℕ) → owns_alone b k l ≡ true → copy_of b l ≡ None → ⊥
owned_has_copy b k l state_m none = copy_by_owner k (holding_at b l) (owner_alone b k l state_m) none
