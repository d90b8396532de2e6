-- As many lines are pending as the table of acknowledgements has entries, so there is room for one more on both or on neither.
use Rattle.std.proofs.Common.{◌≡◌, ℕ, zero, suc, ◌+◌, ◌<◌, true, Option, None, Some, is_some, refl, sym, ap, ap₂, ◌∙◌, subst, arith, if◌then◌else◌}
use Rattle.std.proofs.lemmas.Bool.Decides.{nat_tests}
use Rattle.dash_base.specs.Places.{line_count}
use Rattle.ack_counter.specs.View.{Counted, TableView, entry_at, is_pending, count, has_room, pending_below}
use Rattle.ack_counter.specs.View as table
use Rattle.ack_counter.proofs.LawsOffered.{count-below}
use Rattle.dash_model.specs.Maps.{total}
use Rattle.dash_model.specs.Config.{Config, lines}
use Rattle.dash_model.specs.Part.{Part}
use Rattle.dash_model.specs.Words.{one_pending, AcksHaveRoom}
use Rattle.unit_rows.specs.Shown.{PartsView, acks_by, counted_by, Shows, AreSized}

one_counted : (w : Config) (c : ℕ) (e : Counted) (n : Option ℕ) → one_pending (counted_by w c e n) ≡ 1
one_counted w c e None = refl
one_counted w c e (Some n) = refl

one_by : (w : Config) (c : ℕ) (o : Option Counted) → one_pending (acks_by w c o) ≡ (if is_some o then 1 else 0)
one_by w c None = refl
one_by w c (Some e) = one_counted w c e e.expected

totals : (f : ℕ → ℕ) (t : TableView) (n : ℕ) → ((l : ℕ) → f l ≡ table.one_pending t l) → total f n ≡ pending_below t n
unfolding total pending_below
totals f t zero same = refl
totals f t (suc n) same = ap₂ (λ a b. a + b) (same n) (totals f t n same)

some_there : (t : TableView) (l n : ℕ) (o : Option Counted) → entry_at t l ≡ o → ((e : Counted) → entry_at t l ≡ Some e → l < n) → is_some o ≡ true → l < n
some_there t l n None is low e = absurd (cc)
some_there t l n (Some x) is low e = low x is

-- how many lines are pending
pub total_pending : (w : Config) (c : ℕ) (v : PartsView) (p : Part) → Shows w c v p → AreSized w c v → total (λ l. one_pending (p.cells l).acks) (lines w) ≡ count v.acks
total_pending w c v p s z =
    totals (λ l. one_pending (p.cells l).acks) v.acks (line_count w.top) (λ l. ap one_pending (s.acks l) ∙ one_by w c (entry_at v.acks l))
    ∙ sym (count-below v.acks (line_count w.top) (λ l is. some_there v.acks l (line_count w.top) (entry_at v.acks l) refl (z.acks_in_range l) is))

-- there is room for one more line that is pending, where the table has room
pub room_there : (w : Config) (c : ℕ) (v : PartsView) (p : Part) → Shows w c v p → AreSized w c v → has_room v.acks ≡ true → AcksHaveRoom w p
room_there w c v p s z room =
    let low : count v.acks < v.acks.capacity = grind (arith, nat_tests) in
    subst (λ n. n < w.top.acks) (sym (total_pending w c v p s z)) (subst (λ n. count v.acks < n) z.acks low)

-- and back
pub room_back : (w : Config) (c : ℕ) (v : PartsView) (p : Part) → Shows w c v p → AreSized w c v → AcksHaveRoom w p → has_room v.acks ≡ true
room_back w c v p s z room =
    let low : count v.acks < w.top.acks = subst (λ n. n < w.top.acks) (total_pending w c v p s z) room in
    let is : v.acks.capacity ≡ w.top.acks = z.acks in
    grind (arith, nat_tests)
