-- The next instruction that was found for a hart shows in no part.
use Rattle.std.proofs.Common.{ℕ, ◌<◌, List, length, slice_index_or, slice_set, sym, ◌∙◌, subst, inl, inr}
use Rattle.std.proofs.lemmas.List.{get_or-set_same, get_or-set_other}
use Rattle.hart_core.specs.declared.front.Front.{Front}
use Rattle.dash_msg.specs.declared.parcel.Sent.{Sent}
use Rattle.dash_event.specs.declared.event.Kind.{Kind}
use Rattle.snoop_bus.specs.View.{BusView}
use Rattle.dash_model.specs.Config.{Config}
use Rattle.dash_model.specs.Part.{Processor, Part}
use Rattle.dash_model.specs.Row.{row}
use Rattle.unit_rows.specs.declared.choice.Choice.{Choice}
use Rattle.unit_rows.specs.declared.parts.Local.{Local}
use Rattle.unit_rows.specs.Shown.{PartsView, hart_at, ShowsHart, Shows}
use Rattle.unit_rows.specs.Rows.{DoesChoice}
use Rattle.unit_rows.proofs.Same.{same_or_not}

shows_hart : (w : Config) (b : BusView) (k : ℕ) (x : Local) (f : Front) (s : Processor) → ShowsHart w b k x s → ShowsHart w b k (record x { front = f }) s
shows_hart w b k x f s h = record { core = h.core; reserved = h.reserved; buffer = h.buffer; asked = h.asked; l1 = h.l1 }

-- the parts with another hart, and the same ones with another next instruction of it
shows_fronted : (w : Config) (c : ℕ) (z : PartsView) (xs : List Local) (k : ℕ) (y : Local) (f : Front) (p : Part) → k < length xs → Shows w c (record z { locals = slice_set xs k y }) p → Shows w c (record z { locals = slice_set xs k (record y { front = f }) }) p
shows_fronted w c z xs k y f p inside s = record {
  harts = λ j d below. elim (same_or_not j k) [
    | inl e ↦ subst (λ i. ShowsHart w z.bus i (slice_index_or (slice_set xs k (record y { front = f })) i d) (p.harts (hart_at w c i))) (sym e)
        (subst (λ x. ShowsHart w z.bus k x (p.harts (hart_at w c k))) (sym (get_or-set_same xs k (record y { front = f }) d inside))
        (shows_hart w z.bus k y f (p.harts (hart_at w c k)) (subst (λ x. ShowsHart w z.bus k x (p.harts (hart_at w c k))) (get_or-set_same xs k y d inside) (s.harts k d (subst (λ i. i < w.top.harts) e below)))))
    | inr o ↦ subst (λ x. ShowsHart w z.bus j x (p.harts (hart_at w c j))) (get_or-set_other xs k j y d o ∙ sym (get_or-set_other xs k j (record y { front = f }) d o)) (s.harts j d below)
  ];
  copies = s.copies;
  slots = s.slots;
  acks = s.acks;
  homes = s.homes;
  locks = s.locks;
}

-- so what was done was done with any
pub does_fronted : (w : Config) (c : ℕ) (choice : Choice) (e : Kind) (v z : PartsView) (xs : List Local) (k : ℕ) (y : Local) (f : Front) (sent : List Sent) → k < length xs → DoesChoice w c choice e v (record z { locals = slice_set xs k y }) sent → DoesChoice w c choice e v (record z { locals = slice_set xs k (record y { front = f }) }) sent
does_fronted w c choice e v z xs k y f sent inside d = record {
  is_of = d.is_of;
  does = record {
    done = d.does.done;
    happens = λ p s.
        let h = d.does.happens p s in
        record { guard = h.guard; shows = shows_fronted w c z xs k y f (row w c e d.does.done p).part inside h.shows; sent_is = h.sent_is };
  };
}
