-- The parts at the start, where a hart then owns the first line of memory, keep the sizes of the topology.
use Rattle.std.proofs.Common.{◌≡◌, ℕ, ◌<◌, true, refl, sym, subst}
use Rattle.dash_base.specs.declared.line.Line.{Line}
use Rattle.dash_base.specs.Places.{line_count}
use Rattle.snoop_bus.specs.Holding.{held_by}
use Rattle.snoop_bus.specs.View.{BusView, all_but, after_install}
use Rattle.ack_counter.specs.View.{TableView}
use Rattle.ack_counter.specs.Steps.{fresh, begun}
use Rattle.ack_counter.proofs.LawsOffered.{capacity-with_entry}
use Rattle.dash_model.specs.Config.{Config}
use Rattle.unit_rows.specs.Opening.{IsOpening}
use Rattle.unit_rows.specs.Shown.{PartsView, AreSized}
use Rattle.unit_rows.proofs.LawsOffered.{opening_sized, same_sizes, sized_line, sized_bus, begun_in_range}

-- the parts with another bus, and with other acknowledgements
abbrev pub owned : PartsView → BusView → TableView → PartsView
owned v b acks = record v { bus = b; acks = acks }

pub owned_sized : (w : Config) (c k l : ℕ) (v : PartsView) (d : Line) (b : BusView) → IsOpening w c v → b ≡ after_install v.bus k l d true → AreSized w c (owned v b v.acks)
owned_sized w c k l v d b opening is = subst (λ y. AreSized w c (owned v y v.acks)) (sym is) (sized_bus w c v v.locals (all_but k) l (held_by k d true) (opening_sized w c v opening) (same_sizes w v.locals))

-- and where that line is pending too
pub pending_sized : (w : Config) (c k : ℕ) (v : PartsView) (d : Line) (b : BusView) (acks : TableView) → IsOpening w c v → 0 < line_count w.top → b ≡ after_install v.bus k 0 d true → acks ≡ begun v.acks 0 → AreSized w c (owned v b acks)
pending_sized w c k v d b acks opening some is begins =
    let sized = opening_sized w c v opening in
    subst (λ y. AreSized w c (owned v y acks)) (sym is) (subst (λ y. AreSized w c (owned v (after_install v.bus k 0 d true) y)) (sym begins)
    (sized_line w c v v.locals (all_but k) 0 (held_by k d true) v.slots (begun v.acks 0) sized (same_sizes w v.locals) refl refl sized.slots_in_range (capacity-with_entry v.acks 0 fresh) (begun_in_range v.acks 0 (line_count w.top) some sized.acks_in_range)))
