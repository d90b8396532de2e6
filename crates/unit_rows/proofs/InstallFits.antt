-- Install is enabled only where the line came to the code's slot, and its hart has room for it.
use Rattle.std.proofs.Common.{◌≡◌, ℕ, Bool, true, false, cond, Option, None, Some, is_some, refl, sym, ap, ◌∙◌, subst}
use Rattle.dash_base.specs.declared.line.Line.{Line}
use Rattle.dash_event.specs.declared.event.Kind.{Kind}
use Rattle.dash_event.specs.declared.event.Kind.TheVariants as kind
use Rattle.remote_cache.specs.declared.slot.Phase.{Phase as Waits}
use Rattle.remote_cache.specs.declared.slot.Phase.TheVariants as waits
use Rattle.remote_cache.specs.declared.slot.Slot.{Slot as Request}
use Rattle.remote_cache.specs.Steps.{came_in, arrived_in}
use Rattle.remote_cache.specs.View.{SlotsView, slot_at, slot_of, is_of}
use Rattle.remote_cache.proofs.LawsOffered.{lines_have_one_slot}
use Rattle.snoop_bus.specs.View.{HasHartRoom}
use Rattle.dash_model.specs.Config.{Config}
use Rattle.dash_model.specs.Cell.{Reads, Owns}
use Rattle.dash_model.specs.Part.{Part}
use Rattle.dash_model.specs.HartRows.{HartEffect}
use Rattle.dash_model.specs.LineGuards.{HasCome, InstallFits as InTable}
use Rattle.dash_model.specs.Guard.{Guard}
use Rattle.dash_model.specs.Words.{Room}
use Rattle.unit_rows.specs.declared.choice.Choice.TheVariants.{Install}
use Rattle.unit_rows.specs.Shown.{PartsView, hart_at, phase_by, slot_by, slot_in, Shows, AreSized}
use Rattle.unit_rows.specs.Choices.{IsOf}
use Rattle.unit_rows.specs.Rows.{Enabled, Cannot}
use Rattle.unit_rows.proofs.Same.{is_same}
use Rattle.unit_rows.proofs.RoomOn.{room_code}

-- the slot of this number has the line, which came
record Come (w : Config) (c : ℕ) (v : SlotsView) (n h l : ℕ) : Type 0 where
  request : Request
  at : slot_at v n ≡ Some request
  came : is_some (came_in request.phase) ≡ true
  hart : hart_at w c request.hart ≡ h
  line : request.line.0 ≡ l

come_slot : (n h m t : ℕ) (own : Bool) (phase : Waits) → HasCome n h (cond own (Owns m t (phase_by phase)) (Reads m t (phase_by phase))) → (m ≡ n) × (t ≡ h) × (is_some (came_in phase) ≡ true)
come_slot n h m t true waits.Asked r = absurd r
come_slot n h m t true waits.Poisoned r = absurd r
come_slot n h m t true waits.Refused r = absurd r
come_slot n h m t true (waits.Came d) r = (r.0, r.1, refl)
come_slot n h m t false waits.Asked r = absurd r
come_slot n h m t false waits.Poisoned r = absurd r
come_slot n h m t false waits.Refused r = absurd r
come_slot n h m t false (waits.Came d) r = (r.0, r.1, refl)

come_at : (w : Config) (c : ℕ) (v : SlotsView) (n h l m : ℕ) (q : Option Request) → slot_at v m ≡ q → is_of l q ≡ true → HasCome n h (slot_by w c m q) → Come w c v n h l
come_at w c v n h l m None at of r = absurd r
come_at w c v n h l m (Some s) at of r =
    let t = come_slot n h m (hart_at w c s.hart) s.own s.phase r in
    record { request = s; at = ap (slot_at v) (sym t.0) ∙ at; came = t.2; hart = t.1; line = is_same s.line.0 l of }

come_by : (w : Config) (c : ℕ) (v : SlotsView) (n h l : ℕ) (o : Option ℕ) → slot_of v l ≡ o → HasCome n h (slot_in w c v o) → Come w c v n h l
come_by w c v n h l None e r = absurd r
come_by w c v n h l (Some m) e r = come_at w c v n h l m (slot_at v m) refl (lines_have_one_slot.has_line v l m e) r

-- what an enabled Install tells of the slot
record Told (w : Config) (c : ℕ) (v : PartsView) (n : ℕ) : Type 0 where
  request : Request
  at : slot_at v.slots n ≡ Some request
  came : is_some (arrived_in (slot_at v.slots n)) ≡ true
  room : HasHartRoom v.bus request.hart request.line.0

told_at : (w : Config) (c : ℕ) (v : PartsView) (p : Part) (n h l : ℕ) → AreSized w c v → Shows w c v p → InTable w c n h l p → Told w c v n
told_at w c v p n h l sized shows g =
    let come = come_by w c v.slots n h l (slot_of v.slots l) refl (subst (HasCome n h) (shows.slots l) g.came) in
    let low = (sized.slots_in_range n come.request come.at).0 in
    record {
      request = come.request;
      at = come.at;
      came = ap (λ o. is_some (arrived_in o)) come.at ∙ come.came;
      room = subst (λ y. HasHartRoom v.bus come.request.hart y) (sym come.line) (room_code w c v p come.request.hart l low sized shows (subst (λ y. Room w y l p) (sym come.hart) g.room));
    }

told_by : (w : Config) (c : ℕ) (v : PartsView) (p : Part) (n : ℕ) (e : Kind) (d : HartEffect) → AreSized w c v → Shows w c v p → IsOf w c (Install n) e → Guard w c e d p → Told w c v n
unfolding Guard
told_by w c v p n (kind.Install slot h l) d sized shows is guard = told_at w c v p n h.0 l.0 sized shows (subst (λ y. InTable w c y h.0 l.0 p) is guard)
told_by w c v p n e d sized shows is guard = absurd is

told : (w : Config) (c : ℕ) (v : PartsView) (p : Part) (n : ℕ) → AreSized w c v → Shows w c v p → Enabled w c (Install n) p → Told w c v n
told w c v p n sized shows able = told_by w c v p n able.event able.done sized shows able.is_of able.guard

pub not_come : (w : Config) (c n : ℕ) (v : PartsView) → AreSized w c v → arrived_in (slot_at v.slots n) ≡ None → Cannot w c v (Install n)
not_come w c n v sized none p shows able = let f : true ≡ false = sym (told w c v p n sized shows able).came ∙ ap is_some none in absurd (cc)

pub no_install_room : (w : Config) (c n : ℕ) (v : PartsView) (s : Request) → AreSized w c v → slot_at v.slots n ≡ Some s → (HasHartRoom v.bus s.hart s.line.0 → ⊥) → Cannot w c v (Install n)
no_install_room w c n v s sized at none p shows able =
    let t = told w c v p n sized shows able in
    let both : Some t.request ≡ Some s = sym t.at ∙ at in
    let same : t.request ≡ s = cc in
    none (subst (λ (y : Request). HasHartRoom v.bus y.hart y.line.0) same t.room)

pub came_phase : (t : Waits) (d : Line) → came_in t ≡ Some d → t ≡ waits.Came d
came_phase waits.Asked d e = absurd (cc)
came_phase waits.Poisoned d e = absurd (cc)
came_phase waits.Refused d e = absurd (cc)
came_phase (waits.Came x) d e = let same : x ≡ d = cc in ap waits.Came same
