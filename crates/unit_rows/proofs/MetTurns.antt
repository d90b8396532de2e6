-- A row that changes a line's slot and its entry of acknowledgements, and nothing else.
use Rattle.std.proofs.Common.{◌≡◌, ◌≢◌, ℕ, slice_index_or, refl, sym, ◌∙◌, subst}
use Rattle.ack_counter.specs.View.{TableView}
use Rattle.remote_cache.specs.View.{SlotsView}
use Rattle.dash_model.specs.Config.{Config}
use Rattle.dash_model.specs.LineEffect.{LineEffect}
use Rattle.dash_model.specs.Part.{Part}
use Rattle.unit_rows.specs.Shown.{PartsView, hart_at, slot_on, ShowsHart, Shows, AreSized}
use Rattle.unit_rows.proofs.Lines.{Turns}
use Rattle.unit_rows.proofs.Swept.{unmoved}
use Rattle.unit_rows.proofs.SlotMet.{SlotsFit}
use Rattle.unit_rows.proofs.AckSteps.{AcksFit, AcksTurn}

abbrev pub with_slots : PartsView → SlotsView → TableView → PartsView
with_slots v slots acks = record v { slots = slots; acks = acks }

pub slot_turns : (w : Config) (c : ℕ) (v : PartsView) (p : Part) (l : ℕ) (d : LineEffect) (slots : SlotsView) (acks : TableView) → Shows w c v p → d.cell.copy ≡ (p.cells l).copy
    → d.cell.slot ≡ slot_on w c slots l → ((q : ℕ) → q ≢ l → slot_on w c slots q ≡ slot_on w c v.slots q) → AcksTurn w c v.acks acks l d.cell.acks → d.home ≡ p.homes l → Turns w c v (with_slots v slots acks) p l d
slot_turns w c v p l d slots acks s copy slot others entry home = record {
  harts = λ k x low. subst (λ y. ShowsHart w v.bus k (slice_index_or v.locals k x) y) (sym (unmoved w l (hart_at w c k) (p.cells l).copy d.cell.copy (p.harts (hart_at w c k)) copy)) (s.harts k x low);
  copy = copy ∙ s.copies l;
  copies = λ q apart. refl;
  slot = slot;
  slots = others;
  acks = entry.here;
  entries = entry.there;
  home = λ own. home ∙ s.homes l own;
  own = λ q. refl;
  homes = λ q apart. refl;
  locks = refl;
}

pub sized_slots : (w : Config) (c : ℕ) (v : PartsView) (slots : SlotsView) (acks : TableView) → AreSized w c v → SlotsFit w v.slots slots → AcksFit w v.acks acks → AreSized w c (with_slots v slots acks)
sized_slots w c v slots acks z s a = record {
  locals = z.locals;
  buffers = z.buffers;
  fronts = z.fronts;
  bus_harts = z.bus_harts;
  l1 = z.l1;
  l2 = z.l2;
  slot_harts = s.harts ∙ z.slot_harts;
  slot_count = s.counts ∙ z.slot_count;
  slots_in_range = s.in_range;
  acks = a.capacity ∙ z.acks;
  acks_in_range = a.in_range;
  home_cluster = z.home_cluster;
  home_clusters = z.home_clusters;
  home_lines = z.home_lines;
  lock_cluster = z.lock_cluster;
  lock_clusters = z.lock_clusters;
  lock_words = z.lock_words;
  lock_harts = z.lock_harts;
}
