-- An acknowledgement that comes: the line's entry counts it, where it can.
use Rattle.std.proofs.Common.{◌≡◌, ℕ, ◌+◌, ◌<◌, ◌^◌, ◌&&◌, Bool, true, false, nat_lt, Option, None, Some, [], option_map, refl, sym, ap, ◌∙◌, subst, arith}
use Rattle.std.specs.Option.{ForSome}
use Rattle.std.proofs.lemmas.Bool.Decides.{nat_tests}
use Rattle.dash_base.specs.declared.id.ClusterId.{ClusterId}
use Rattle.dash_base.specs.declared.id.LineId.{LineId}
use Rattle.dash_base.specs.Places.{line_count}
use Rattle.dash_msg.specs.declared.msg.Msg.TheVariants.{Ack, TransferAck}
use Rattle.ack_counter.specs.View.{TableView, Counted, entry_at, got_at}
use Rattle.ack_counter.specs.Steps.{acked}
use Rattle.dash_model.specs.Maps.{most_got}
use Rattle.dash_model.specs.Config.{Config}
use Rattle.dash_model.specs.Part.{Part}
use Rattle.dash_model.specs.Ranges.{has_line, got_fits}
use Rattle.dash_model.specs.Replies.{counted}
use Rattle.unit_rows.specs.Shown.{PartsView, counted_by, acks_by, Shows, AreSized}
use Rattle.unit_rows.specs.Takes.{Takes}
use Rattle.unit_rows.specs.Replies.{counts_more}
use Rattle.unit_rows.proofs.LineTakes.{turned, TakesOn, takes_line, takes_no_line}
use Rattle.unit_rows.proofs.SlotMet.{slots_fit}
use Rattle.unit_rows.proofs.MetTurns.{with_slots, slot_turns, sized_slots}
use Rattle.unit_rows.proofs.AckSteps.{AcksTurn, acked_turn}

fits_by : (w : Config) (c : ℕ) (e : Counted) (x : Option ℕ) → got_fits (counted_by w c e x) ≡ counts_more (Some e.got)
fits_by w c e None = refl
fits_by w c e (Some n) = refl

fits_entry : (w : Config) (c : ℕ) (o : Option Counted) → got_fits (acks_by w c o) ≡ counts_more (option_map (λ e. e.got) o)
fits_entry w c None = refl
fits_entry w c (Some e) = fits_by w c e e.expected

-- what the count needs
may_count : (o : Option ℕ) → counts_more o ≡ true → ForSome o (λ got. got + 1 < 2 ^ 32)
may_count o e = λ got is. below got (sym (ap counts_more is) ∙ e)
  where
    below : (got : ℕ) → nat_lt got most_got ≡ true → got + 1 < 2 ^ 32
    below got t = let less : got < 4294967295 = grind (arith, nat_tests) in omega arith

pub can_count : (t : TableView) (l : ℕ) → counts_more (got_at t l) ≡ true → ForSome (got_at t l) (λ got. got + 1 < 2 ^ 32)
can_count t l e = may_count (got_at t l) e

past : (a b : Bool) → a ≡ false → a && b ≡ false
past true b e = absurd (cc)
past false b e = refl

full : (a b : Bool) → b ≡ false → a && b ≡ false
full true b e = e
full false b e = refl

both : (a b : Bool) → a ≡ true → b ≡ true → a && b ≡ true
both true b e f = f
both false b e f = absurd (cc)

module _ (w : Config) (c : ℕ) (v : PartsView) (from : ClusterId) (l : LineId) (outside : nat_lt l.0 (line_count w.top) ≡ false) where
  pub ack_past : Takes w c from (Ack l) v v []
  ack_past = takes_no_line w c from (Ack l) l v refl (λ p s. past (has_line w l) (got_fits (p.cells l.0).acks) outside)

  pub transfer_ack_past : Takes w c from (TransferAck l) v v []
  transfer_ack_past = takes_no_line w c from (TransferAck l) l v refl (λ p s. past (has_line w l) (got_fits (p.cells l.0).acks) outside)

module _ (w : Config) (c : ℕ) (v : PartsView) (from : ClusterId) (l : LineId) (none : counts_more (got_at v.acks l.0) ≡ false) where
  is_full : (p : Part) → Shows w c v p → got_fits (p.cells l.0).acks ≡ false
  is_full p s = ap got_fits (s.acks l.0) ∙ fits_entry w c (entry_at v.acks l.0) ∙ none

  pub ack_full : Takes w c from (Ack l) v v []
  ack_full = takes_no_line w c from (Ack l) l v refl (λ p s. full (has_line w l) (got_fits (p.cells l.0).acks) (is_full p s))

  pub transfer_ack_full : Takes w c from (TransferAck l) v v []
  transfer_ack_full = takes_no_line w c from (TransferAck l) l v refl (λ p s. full (has_line w l) (got_fits (p.cells l.0).acks) (is_full p s))

module _ (w : Config) (c : ℕ) (v : PartsView) (l : LineId) (z : AreSized w c v) (inside : nat_lt l.0 (line_count w.top) ≡ true) where
  inside_low : l.0 < line_count w.top
  inside_low = let t = inside in grind (arith, nat_tests)

  turn : AcksTurn w c v.acks (acked v.acks l.0) l.0 (counted (acks_by w c (entry_at v.acks l.0)))
  turn = acked_turn w c v.acks l.0 z.acks_in_range inside_low

  pub sized_ack : AreSized w c (with_slots v v.slots (acked v.acks l.0))
  sized_ack = sized_slots w c v v.slots (acked v.acks l.0) z (slots_fit w v.slots z.slots_in_range) turn.fit

  fits : (p : Part) → Shows w c v p → counts_more (got_at v.acks l.0) ≡ true → has_line w l && got_fits (p.cells l.0).acks ≡ true
  fits p s more = both (has_line w l) (got_fits (p.cells l.0).acks) inside (ap got_fits (s.acks l.0) ∙ fits_entry w c (entry_at v.acks l.0) ∙ more)

  counted_on : (p : Part) → Shows w c v p → AcksTurn w c v.acks (acked v.acks l.0) l.0 (counted (p.cells l.0).acks)
  counted_on p s = subst (λ a. AcksTurn w c v.acks (acked v.acks l.0) l.0 (counted a)) (sym (s.acks l.0)) turn

  ack_on : (from : ClusterId) → counts_more (got_at v.acks l.0) ≡ true → (p : Part) → Shows w c v p → TakesOn w c from (Ack l) l v (with_slots v v.slots (acked v.acks l.0)) [] p
  ack_on from more p s = record { applied = fits p s more; turns = slot_turns w c v p l.0 (turned w c from (Ack l) l p) v.slots (acked v.acks l.0) s refl (s.slots l.0) (λ q apart. refl) (counted_on p s) refl; sent_is = refl }

  transfer_ack_on : (from : ClusterId) → counts_more (got_at v.acks l.0) ≡ true → (p : Part) → Shows w c v p → TakesOn w c from (TransferAck l) l v (with_slots v v.slots (acked v.acks l.0)) [] p
  transfer_ack_on from more p s = record { applied = fits p s more; turns = slot_turns w c v p l.0 (turned w c from (TransferAck l) l p) v.slots (acked v.acks l.0) s refl (s.slots l.0) (λ q apart. refl) (counted_on p s) refl; sent_is = refl }

  pub takes_ack : (from : ClusterId) → counts_more (got_at v.acks l.0) ≡ true → Takes w c from (Ack l) v (with_slots v v.slots (acked v.acks l.0)) []
  takes_ack from more = takes_line w c from (Ack l) l v (with_slots v v.slots (acked v.acks l.0)) [] refl (ack_on from more)

  pub takes_transfer_ack : (from : ClusterId) → counts_more (got_at v.acks l.0) ≡ true → Takes w c from (TransferAck l) v (with_slots v v.slots (acked v.acks l.0)) []
  takes_transfer_ack from more = takes_line w c from (TransferAck l) l v (with_slots v v.slots (acked v.acks l.0)) [] refl (transfer_ack_on from more)
