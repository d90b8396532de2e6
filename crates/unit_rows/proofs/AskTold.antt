-- Ask is enabled only where the code's slot may make a request.
use Rattle.std.proofs.Common.{◌≡◌, ℕ, Bool, true, false, Option, None, Some, is_some, refl, sym, ap, ◌∙◌, subst}
use Rattle.remote_cache.specs.declared.slot.Slot.{Slot as Request}
use Rattle.remote_cache.specs.View.{slot_at, slot_of, IsOnePerLine}
use Rattle.dash_event.specs.declared.event.Kind.{Kind}
use Rattle.dash_event.specs.declared.event.Kind.TheVariants as kind
use Rattle.dash_model.specs.Config.{Config}
use Rattle.dash_model.specs.Part.{Part}
use Rattle.dash_model.specs.HartRows.{HartEffect}
use Rattle.dash_model.specs.LineGuards.{AskFits as MayAsk}
use Rattle.dash_model.specs.Guard.{Guard}
use Rattle.unit_rows.specs.declared.choice.Choice.TheVariants.{Ask}
use Rattle.unit_rows.specs.Shown.{PartsView}
use Rattle.unit_rows.specs.Choices.{IsOf}
use Rattle.unit_rows.specs.Rows.{Enabled, Cannot}
use Rattle.unit_rows.specs.AskFits.{HasCause, CausesJust, RequestFits}
use Rattle.unit_rows.proofs.EmptySlots.{empty_back}
use Rattle.unit_rows.proofs.HintFits.{lone_back}

-- a line for which the slot may ask
record Asks (w : Config) (c n : ℕ) (p : Part) : Type 0 where
  hart : ℕ
  line : ℕ
  own : Bool
  fits : MayAsk w c n hart line own p

ask_guard : (w : Config) (c n : ℕ) (p : Part) (e : Kind) (d : HartEffect) → IsOf w c (Ask n) e → Guard w c e d p → Asks w c n p
unfolding Guard
ask_guard w c n p (kind.Ask slot g l own) d is guard = record { hart = g.0; line = l.0; own = own; fits = subst (λ y. MayAsk w c y g.0 l.0 own p) is guard }
ask_guard w c n p e d is guard = absurd is

told : (w : Config) (c n : ℕ) (p : Part) → Enabled w c (Ask n) p → Asks w c n p
told w c n p able = ask_guard w c n p able.event able.done able.is_of able.guard

some_not : {A : Type 0} (o : Option A) (b : Bool) → b ≡ is_some o → b ≡ true → o ≡ None → ⊥
some_not o b is so none = let f : true ≡ false = sym so ∙ is ∙ ap is_some none in absurd (cc)

-- the slot has a request
pub not_empty : (w : Config) (c n : ℕ) (v : PartsView) (b : Bool) → IsOnePerLine v.slots.slots → b ≡ is_some (slot_at v.slots n) → b ≡ true → Cannot w c v (Ask n)
not_empty w c n v b one is so p shows able = some_not (slot_at v.slots n) b is so (empty_back w c n v p shows one (told w c n p able).fits.may.empty)

-- it has no cause for one
pub causeless : (w : Config) (c n : ℕ) (v : PartsView) (o : Option Request) → CausesJust w c v n o → o ≡ None → Cannot w c v (Ask n)
causeless w c n v None just is p shows able = let a = told w c n p able in just p a.hart a.line a.own shows a.fits.mine a.fits.may.cause
causeless w c n v (Some r) just is p shows able = absurd (cc)

pub the_cause : (w : Config) (c n : ℕ) (v : PartsView) (o : Option Request) (r : Request) → CausesJust w c v n o → o ≡ Some r → HasCause w c v n r
the_cause w c n v o r just is = subst (CausesJust w c v n) is just

-- a slot has the line that it has cause to ask for
pub line_taken : (w : Config) (c n : ℕ) (v : PartsView) (r : Request) (b : Bool) → HasCause w c v n r → b ≡ is_some (slot_of v.slots r.line.0) → b ≡ true → Cannot w c v (Ask n)
line_taken w c n v r b has is so p shows able =
    let a = told w c n p able in
    let same = has.only p a.hart a.line a.own shows a.fits.mine a.fits.may.cause in
    some_not (slot_of v.slots r.line.0) b is so (subst (λ y. slot_of v.slots y ≡ None) same (lone_back w c a.line v p shows a.fits.may.lone))

none_by : {A : Type 0} (o : Option A) (b : Bool) → b ≡ is_some o → b ≡ false → o ≡ None
none_by None b is e = refl
none_by (Some x) b is e = let f : true ≡ false = sym is ∙ e in absurd (cc)

pub may_request : (w : Config) (c n : ℕ) (v : PartsView) (r : Request) (a b : Bool) → HasCause w c v n r → a ≡ is_some (slot_at v.slots n) → a ≡ false → b ≡ is_some (slot_of v.slots r.line.0) → b ≡ false → RequestFits w c v n r
may_request w c n v r a b has empty none lone free = record {
  asked = has.asked;
  local = has.local;
  inside = has.inside;
  room = has.room;
  fits = record { empty = none_by (slot_at v.slots n) a empty none; lone = none_by (slot_of v.slots r.line.0) b lone free; cause = has.cause };
}
