-- Whether a line has a prefetch slot that is to own it, and whether one acknowledgement more can be counted of it.
use Rattle.std.specs.Prelude.{ℕ, ◌&&◌, Bool, true, false, nat_lt, Option, None, Some}
use Rattle.dash_model.specs.Maps.{most_got}
use Rattle.remote_cache.specs.declared.slot.Slot.{Slot as Request}
use Rattle.remote_cache.specs.View.{SlotsView, slot_at, slot_of, is_prefetch}

abbrev pub owns_request : Option Request → Bool
owns_request None = false
owns_request (Some s) = s.own

abbrev pub prefetch_owns_at : SlotsView → Option ℕ → Bool
prefetch_owns_at v None = false
prefetch_owns_at v (Some n) = is_prefetch v n && owns_request (slot_at v n)

abbrev pub prefetch_owns : SlotsView → ℕ → Bool
prefetch_owns v l = prefetch_owns_at v (slot_of v l)

-- whether one acknowledgement more can be counted of a line: without an entry none is
abbrev pub counts_more : Option ℕ → Bool
counts_more None = true
counts_more (Some got) = nat_lt got most_got
