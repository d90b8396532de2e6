-- Hints: the row of one that opens no slot, of one that asks for a line to read, and of one that asks to own it.
use Rattle.std.proofs.Common.{◌≡◌, ◌≢◌, ℕ, ◌+◌, ◌-◌, ◌/◌, ◌*◌, ◌%◌, ◌<◌, ◌≤◌, ◌&&◌, nat_le, not, Bool, true, false, Option, None, Some, [], ◌∷◌, refl, sym, ap, ◌∙◌, subst, arith}
use Rattle.std.specs.Prelude.{MatchOption}
use Rattle.std.proofs.lemmas.Bool.Decides.{nat_tests}
use Rattle.dash_base.specs.Places.{line_count}
use Rattle.dash_base.specs.declared.id.HartId.{HartId}
use Rattle.dash_base.specs.declared.id.LineId.{LineId}
use Rattle.dash_base.specs.declared.need.HintKind.{HintKind}
use Rattle.dash_base.specs.declared.need.HintKind.TheVariants.{Fetch, Shared, Exclusive}
use Rattle.dash_base.specs.declared.need.Need.TheVariants as needed
use Rattle.dash_event.specs.declared.event.Kind.TheVariants as kind
use Rattle.ack_counter.specs.View.{Counted, TableView, entry_at, has_room, count as acks_count}
use Rattle.ack_counter.specs.Steps.{begun, fresh}
use Rattle.ack_counter.proofs.LawsOffered.{capacity-with_entry}
use Rattle.remote_cache.specs.declared.slot.Slot.{Slot as Request}
use Rattle.remote_cache.specs.Steps.{issued}
use Rattle.remote_cache.specs.View.{is_of, with_slot, IsOnePerLine}
use Rattle.prefetch_unit.specs.Hints.{Opens}
use Rattle.hart_core.specs.Access.{in_memory}
use Rattle.snoop_bus.specs.View.{copy_of, owner_at}
use Rattle.std.specs.Prelude.{is_some}
use Rattle.dash_model.specs.Config.{Config, line_id, line_at, home_of}
use Rattle.dash_model.specs.Cell.{Asked, Reads, Owns}
use Rattle.dash_model.specs.Net.{to}
use Rattle.dash_model.specs.Part.{Part}
use Rattle.dash_model.specs.LineEffect.{LineEffect}
use Rattle.dash_model.specs.Acts.{AskRead, AskOwn, act_row}
use Rattle.dash_model.specs.HartRows.{PartEffect, acts, retire, hint_row, on_line}
use Rattle.dash_model.specs.Guard.{Guard}
use Rattle.dash_model.specs.Row.{row}
use Rattle.unit_rows.specs.declared.choice.Choice.TheVariants.{Step}
use Rattle.unit_rows.specs.Shown.{PartsView, hart_at, Shows, AreSized}
use Rattle.unit_rows.specs.Steps.{HartNeeds, changed_local, Retired}
use Rattle.unit_rows.specs.SlotFits.{request_for}
use Rattle.unit_rows.specs.Hints.{HintFits, OpensJust}
use Rattle.unit_rows.specs.Rows.{DoesChoice}
use Rattle.unit_rows.proofs.Same.{test_differ}
use Rattle.unit_rows.proofs.Lines.{shows_line}
use Rattle.unit_rows.proofs.BusTurns.{with_line}
use Rattle.unit_rows.proofs.SlotsOn.{slot_opened, slot_elsewhere}
use Rattle.unit_rows.proofs.SlotTurns.{slot_turns, sized_slots}
use Rattle.unit_rows.proofs.AcksOn.{begun-acks, begun-elsewhere, begun_in_range}
use Rattle.unit_rows.proofs.HintFits.{slot_is_shown, opens_shown}
use Rattle.unit_rows.proofs.Retiring.{effect, plain_step}

-- what the choice of a slot tells
pub choice_tells : (w : Config) (v : PartsView) (address l : ℕ) (kinds : HintKind) (copy owner : Bool) (o : Option ℕ) → l ≡ line_at w address → copy ≡ is_some (copy_of v.bus l) → owner ≡ is_some (owner_at v.bus l) → in_memory w.top address 1 ≡ true
    → MatchOption o ((n : ℕ) → Opens kinds l copy owner v.slots v.acks n → ⊥) (λ n. Opens kinds l copy owner v.slots v.acks n) → OpensJust w v kinds address o
choice_tells w v address l kinds copy owner None line copies owners inside told = λ n f.
    told n (subst (λ b. Opens kinds l copy b v.slots v.acks n) (sym owners) (subst (λ b. Opens kinds l b (is_some (owner_at v.bus l)) v.slots v.acks n) (sym copies) (subst (λ i. Opens kinds i (is_some (copy_of v.bus i)) (is_some (owner_at v.bus i)) v.slots v.acks n) (sym line) f.opens)))
choice_tells w v address l kinds copy owner (Some n) line copies owners inside told = record {
  inside = inside;
  opens = subst (λ i. Opens kinds i (is_some (copy_of v.bus i)) (is_some (owner_at v.bus i)) v.slots v.acks n) line (subst (λ b. Opens kinds l b (is_some (owner_at v.bus l)) v.slots v.acks n) copies (subst (λ b. Opens kinds l copy b v.slots v.acks n) owners told));
}

-- no slot
pub does_nothing : (w : Config) (c k pc address : ℕ) (kinds : HintKind) (g : HartId) (v z : PartsView) → Retired w v z k 0 pc → g.0 ≡ hart_at w c k → k < w.top.harts → AreSized w c v → HartNeeds w v k (needed.Hint kinds address)
    → IsOnePerLine v.slots.slots → OpensJust w v kinds address None → DoesChoice w c (Step k) (kind.Hint g pc None) v z []
unfolding Guard row
does_nothing w c k pc address kinds g v z r e low sized n one just = record {
  is_of = e;
  does = record {
    done = effect (needed.Hint kinds address) r.core;
    happens = λ p s.
        let q = plain_step w c k g.0 pc (needed.Hint kinds address) v z p r e low sized n s in
        record { guard = record { kinds = kinds; address = address; next = q.at; opens = slot_is_shown w c address kinds None v p s sized one just }; shows = q.shows; sent_is = refl };
  };
}

-- the parts once a slot asks
abbrev pub asking_parts : PartsView → ℕ → ℕ → LineId → Bool → TableView → PartsView
asking_parts v n k line own acks = with_line v v.locals v.bus (with_slot v.slots n (Some (issued k line own))) acks

-- the hart retires of the parts as they were before
abbrev before : (w : Config) (v : PartsView) (z : PartsView) (n k pc : ℕ) (line : LineId) (own : Bool) (acks : TableView) (r : Retired w (asking_parts v n k line own acks) z k 0 pc) → Retired w v (changed_local v k (record r.local { core = r.core; front = r.front })) k 0 pc
before w v z n k pc line own acks r = record { local = r.local; is = r.is; core = r.core; front = r.front; does = r.does; pc_is = r.pc_is; new_is = refl }

read_row : (w : Config) (h n address : ℕ) (kinds : HintKind) (p : Part) → kinds ≢ Exclusive → hint_row w h (Some n) (needed.Hint kinds address) p ≡ acts w (line_at w address) (AskRead n h) p
read_row w h n address Fetch p e = refl
read_row w h n address Shared p e = refl
read_row w h n address Exclusive p e = absurd (e refl)

to_read : (w : Config) (c k pc address n : ℕ) (kinds : HintKind) (g : HartId) (v z : PartsView) → Retired w (asking_parts v n k (line_id (line_at w address)) false v.acks) z k 0 pc → g.0 ≡ hart_at w c k → k < w.top.harts → AreSized w c v → HartNeeds w v k (needed.Hint kinds address)
    → IsOnePerLine v.slots.slots → kinds ≢ Exclusive → HintFits w v kinds address n → DoesChoice w c (Step k) (kind.Hint g pc (Some n)) v z (to (home_of w (line_at w address)) (request_for (line_id (line_at w address)) false) ∷ [])
unfolding Guard row
to_read w c k pc address n kinds g v z r e low sized needs one shared f = record {
  is_of = e;
  does = record {
    done = effect (needed.Hint kinds address) r.core;
    happens = λ p s.
        let l = line_at w address in
        let v1 = changed_local v k (record r.local { core = r.core; front = r.front }) in
        let q = plain_step w c k g.0 pc (needed.Hint kinds address) v v1 p (before w v z n k pc (line_id l) false v.acks r) e low sized needs s in
        let p1 = retire g.0 (effect (needed.Hint kinds address) r.core) p in
        let slots = with_slot v.slots n (Some (issued k (line_id l) false)) in
        let d : LineEffect = act_row (line_id l) (home_of w l) (AskRead n g.0) (p1.cells l) (p1.homes l) in
        let shows : Shows w c (with_line v1 v1.locals v1.bus slots v.acks) (on_line w l d p1).part = shows_line w c v1 (with_line v1 v1.locals v1.bus slots v.acks) p1 l d q.shows
        (slot_turns w c v1 p1 l d slots v.acks q.shows refl
        (ap (λ i. Reads n i Asked) e ∙ sym (slot_opened w c v.slots n l (issued k (line_id l) false) f.opens.slot.below one f.opens.slot.empty f.opens.lone refl))
        (λ j apart. slot_elsewhere w c v.slots n j (Some (issued k (line_id l) false)) (ap (is_of j) f.opens.slot.empty) (test_differ l j (λ i. apart (sym i))))
        (q.shows.acks l) (λ j apart. refl) refl) in
        let row_is = read_row w g.0 n address kinds p1 shared in
        record {
          guard = record { kinds = kinds; address = address; next = q.at; opens = opens_shown w c n address kinds v p s sized one f };
          shows = subst (λ y. Shows w c z y) (sym (ap (λ (x : PartEffect). x.part) row_is)) (subst (λ y. Shows w c y (on_line w l d p1).part) (sym r.new_is) shows);
          sent_is = ap (λ (x : PartEffect). x.sent) row_is;
        };
  };
}

to_own : (w : Config) (c k pc address n : ℕ) (g : HartId) (v z : PartsView) → Retired w (asking_parts v n k (line_id (line_at w address)) true (begun v.acks (line_at w address))) z k 0 pc → g.0 ≡ hart_at w c k → k < w.top.harts → AreSized w c v → HartNeeds w v k (needed.Hint Exclusive address)
    → IsOnePerLine v.slots.slots → HintFits w v Exclusive address n → DoesChoice w c (Step k) (kind.Hint g pc (Some n)) v z (to (home_of w (line_at w address)) (request_for (line_id (line_at w address)) true) ∷ [])
unfolding Guard row
to_own w c k pc address n g v z r e low sized needs one f = record {
  is_of = e;
  does = record {
    done = effect (needed.Hint Exclusive address) r.core;
    happens = λ p s.
        let l = line_at w address in
        let v1 = changed_local v k (record r.local { core = r.core; front = r.front }) in
        let q = plain_step w c k g.0 pc (needed.Hint Exclusive address) v v1 p (before w v z n k pc (line_id l) true (begun v.acks l) r) e low sized needs s in
        let p1 = retire g.0 (effect (needed.Hint Exclusive address) r.core) p in
        let slots = with_slot v.slots n (Some (issued k (line_id l) true)) in
        let d : LineEffect = act_row (line_id l) (home_of w l) (AskOwn n g.0) (p1.cells l) (p1.homes l) in
        let shows : Shows w c (with_line v1 v1.locals v1.bus slots (begun v.acks l)) (on_line w l d p1).part = shows_line w c v1 (with_line v1 v1.locals v1.bus slots (begun v.acks l)) p1 l d q.shows
        (slot_turns w c v1 p1 l d slots (begun v.acks l) q.shows refl
        (ap (λ i. Owns n i Asked) e ∙ sym (slot_opened w c v.slots n l (issued k (line_id l) true) f.opens.slot.below one f.opens.slot.empty f.opens.lone refl))
        (λ j apart. slot_elsewhere w c v.slots n j (Some (issued k (line_id l) true)) (ap (is_of j) f.opens.slot.empty) (test_differ l j (λ i. apart (sym i))))
        (sym (begun-acks w c v.acks l)) (begun-elsewhere v.acks l) refl) in
        record {
          guard = record { kinds = Exclusive; address = address; next = q.at; opens = opens_shown w c n address Exclusive v p s sized one f };
          shows = subst (λ y. Shows w c y (on_line w l d p1).part) (sym r.new_is) shows;
          sent_is = refl;
        };
  };
}

-- the same, with the line as the code has it
pub asks_to_read : (w : Config) (c k pc address n : ℕ) (line : LineId) (kinds : HintKind) (g : HartId) (v z : PartsView) → line ≡ line_id (line_at w address) → Retired w (asking_parts v n k line false v.acks) z k 0 pc → g.0 ≡ hart_at w c k → k < w.top.harts → AreSized w c v → HartNeeds w v k (needed.Hint kinds address)
    → IsOnePerLine v.slots.slots → kinds ≢ Exclusive → HintFits w v kinds address n → DoesChoice w c (Step k) (kind.Hint g pc (Some n)) v z (to (home_of w line.0) (request_for line false) ∷ [])
asks_to_read w c k pc address n line kinds g v z is r e low sized needs one shared f =
    subst (λ i. DoesChoice w c (Step k) (kind.Hint g pc (Some n)) v z (to (home_of w i.0) (request_for i false) ∷ [])) (sym is) (to_read w c k pc address n kinds g v z (subst (λ i. Retired w (asking_parts v n k i false v.acks) z k 0 pc) is r) e low sized needs one shared f)

pub asks_to_own : (w : Config) (c k pc address n : ℕ) (line : LineId) (g : HartId) (v z : PartsView) → line ≡ line_id (line_at w address) → Retired w (asking_parts v n k line true (begun v.acks line.0)) z k 0 pc → g.0 ≡ hart_at w c k → k < w.top.harts → AreSized w c v → HartNeeds w v k (needed.Hint Exclusive address)
    → IsOnePerLine v.slots.slots → HintFits w v Exclusive address n → DoesChoice w c (Step k) (kind.Hint g pc (Some n)) v z (to (home_of w line.0) (request_for line true) ∷ [])
asks_to_own w c k pc address n line g v z is r e low sized needs one f =
    subst (λ i. DoesChoice w c (Step k) (kind.Hint g pc (Some n)) v z (to (home_of w i.0) (request_for i true) ∷ [])) (sym is) (to_own w c k pc address n g v z (subst (λ i. Retired w (asking_parts v n k i true (begun v.acks i.0)) z k 0 pc) is r) e low sized needs one f)

and_both : (a b : Bool) → (a && b) ≡ true → (a ≡ true) × (b ≡ true)
and_both true true e = (refl, refl)
and_both true false e = absurd (cc)
and_both false b e = absurd (cc)

-- the line of an address in memory is one of memory
line_in : (b m a : ℕ) → (nat_le b a && nat_le (a + 1) (b + m)) ≡ true → m % 65536 ≡ 0 → (a - b) / 16 < m / 16
line_in b m a e pages =
    let two = and_both (nat_le b a) (nat_le (a + 1) (b + m)) e in
    let low : b ≤ a = (let t = two.0 in grind (arith, nat_tests)) in
    let high : a + 1 ≤ b + m = (let t = two.1 in grind (arith, nat_tests)) in
    let whole : 16 * (m / 16) ≡ m = omega arith in
    omega arith

-- the sizes once a slot asks
pub sized_asking : (w : Config) (c k address n : ℕ) (line : LineId) (kinds : HintKind) (v : PartsView) (own : Bool) (acks : TableView) → line ≡ line_id (line_at w address) → k < w.top.harts → AreSized w c v → HintFits w v kinds address n
    → acks.capacity ≡ w.top.acks → ((q : ℕ) (e : Counted) → entry_at acks q ≡ Some e → q < line_count w.top) → AreSized w c (asking_parts v n k line own acks)
sized_asking w c k address n line kinds v own acks is low sized f cap range =
    let inside : line.0 < line_count w.top = subst (λ (i : LineId). i.0 < line_count w.top) (sym is) (line_in w.top.base w.top.memory address f.inside w.top.memory_in_pages) in
    sized_slots w c v n (Some (issued k line own)) acks f.opens.slot.below sized (λ s e. let t : issued k line own ≡ s = cc in subst (λ (y : Request). (y.hart < w.top.harts) × (y.line.0 < line_count w.top)) t (low, inside)) (cap ∙ sym sized.acks) range

pub capacity-begun : (t : TableView) (l : ℕ) → (begun t l).capacity ≡ t.capacity
capacity-begun t l = capacity-with_entry t l fresh

-- a hint to own has room
pub room_for : (w : Config) (v : PartsView) (address n : ℕ) → HintFits w v Exclusive address n → acks_count v.acks < v.acks.capacity
room_for w v address n f = let two = and_both (not (is_some (owner_at v.bus (line_at w address)))) (has_room v.acks) f.opens.kinds in let t = two.1 in grind (arith, nat_tests)

pub begun_range : (w : Config) (c address n : ℕ) (line : LineId) (v : PartsView) → line ≡ line_id (line_at w address) → AreSized w c v → HintFits w v Exclusive address n → (q : ℕ) (e : Counted) → entry_at (begun v.acks line.0) q ≡ Some e → q < line_count w.top
begun_range w c address n line v is sized f =
    begun_in_range v.acks line.0 (line_count w.top) (subst (λ (i : LineId). i.0 < line_count w.top) (sym is) (line_in w.top.base w.top.memory address f.inside w.top.memory_in_pages)) sized.acks_in_range
