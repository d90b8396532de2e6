-- A row of a line that leaves the bus as it was: its slot changes, and its acknowledgements may.
use Rattle.std.proofs.Common.{◌≡◌, ◌≢◌, ℕ, ◌<◌, Option, Some, slice_index_or, refl, sym, ap, ◌∙◌, subst, inl, inr}
use Rattle.std.proofs.lemmas.List.{length-set}
use Rattle.dash_base.specs.Places.{line_count}
use Rattle.ack_counter.specs.View.{Counted, TableView, entry_at}
use Rattle.remote_cache.specs.declared.slot.Slot.{Slot as Request}
use Rattle.remote_cache.specs.View.{SlotsView, slot_at, count as slot_count, with_slot}
use Rattle.remote_cache.proofs.LawsOffered.{set_slots_stand}
use Rattle.dash_model.specs.Config.{Config}
use Rattle.dash_model.specs.Part.{Part}
use Rattle.dash_model.specs.LineEffect.{LineEffect}
use Rattle.unit_rows.specs.Shown.{PartsView, hart_at, slot_on, acks_by, ShowsHart, Shows, AreSized}
use Rattle.unit_rows.proofs.Same.{same_or_not}
use Rattle.unit_rows.proofs.Lines.{Turns}
use Rattle.unit_rows.proofs.Swept.{unmoved}
use Rattle.unit_rows.proofs.BusTurns.{with_line}

pub slot_turns : (w : Config) (c : ℕ) (v : PartsView) (p : Part) (l : ℕ) (d : LineEffect) (slots : SlotsView) (acks : TableView) → Shows w c v p → d.cell.copy ≡ (p.cells l).copy
    → d.cell.slot ≡ slot_on w c slots l → ((q : ℕ) → q ≢ l → slot_on w c slots q ≡ slot_on w c v.slots q)
    → d.cell.acks ≡ acks_by w c (entry_at acks l) → ((q : ℕ) → q ≢ l → entry_at acks q ≡ entry_at v.acks q) → d.home ≡ p.homes l
    → Turns w c v (with_line v v.locals v.bus slots acks) p l d
slot_turns w c v p l d slots acks shows copy slot other_slots entry other_entries home = record {
  harts = λ k x low. subst (ShowsHart w v.bus k (slice_index_or v.locals k x)) (sym (unmoved w l (hart_at w c k) (p.cells l).copy d.cell.copy (p.harts (hart_at w c k)) copy)) (shows.harts k x low);
  copy = copy ∙ shows.copies l;
  copies = λ q apart. refl;
  slot = slot;
  slots = other_slots;
  acks = entry;
  entries = other_entries;
  home = λ mine. home ∙ shows.homes l mine;
  own = λ q. refl;
  homes = λ q apart. refl;
  locks = refl;
}

-- slots in range stay so, where a slot gets one in range
pub slots_range : (w : Config) (v : SlotsView) (n : ℕ) (o : Option Request) → n < slot_count v → ((m : ℕ) (s : Request) → slot_at v m ≡ Some s → (s.hart < w.top.harts) × (s.line.0 < line_count w.top)) → ((s : Request) → o ≡ Some s → (s.hart < w.top.harts) × (s.line.0 < line_count w.top))
    → (m : ℕ) (s : Request) → slot_at (with_slot v n o) m ≡ Some s → (s.hart < w.top.harts) × (s.line.0 < line_count w.top)
slots_range w v n o low old new m s is = elim (same_or_not m n) [
  | inl e ↦ new s (sym (set_slots_stand.here v n o low) ∙ ap (slot_at (with_slot v n o)) (sym e) ∙ is)
  | inr apart ↦ old m s (sym (set_slots_stand.others v n m o apart) ∙ is)
]

pub slots_count : (v : SlotsView) (n : ℕ) (o : Option Request) → slot_count (with_slot v n o) ≡ slot_count v
slots_count v n o = length-set v.slots n o

pub sized_slots : (w : Config) (c : ℕ) (v : PartsView) (n : ℕ) (o : Option Request) (acks : TableView) → n < slot_count v.slots → AreSized w c v → ((s : Request) → o ≡ Some s → (s.hart < w.top.harts) × (s.line.0 < line_count w.top))
    → acks.capacity ≡ v.acks.capacity → ((q : ℕ) (e : Counted) → entry_at acks q ≡ Some e → q < line_count w.top) → AreSized w c (with_line v v.locals v.bus (with_slot v.slots n o) acks)
sized_slots w c v n o acks low z range capacity entries = record {
  locals = z.locals;
  buffers = z.buffers;
  fronts = z.fronts;
  bus_harts = z.bus_harts;
  l1 = z.l1;
  l2 = z.l2;
  slot_harts = z.slot_harts;
  slot_count = slots_count v.slots n o ∙ z.slot_count;
  slots_in_range = slots_range w v.slots n o low z.slots_in_range range;
  acks = capacity ∙ z.acks;
  acks_in_range = entries;
  home_cluster = z.home_cluster;
  home_clusters = z.home_clusters;
  home_lines = z.home_lines;
  lock_cluster = z.lock_cluster;
  lock_clusters = z.lock_clusters;
  lock_words = z.lock_words;
  lock_harts = z.lock_harts;
}
