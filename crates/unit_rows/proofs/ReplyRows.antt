-- Replies to a cluster's requests, and acknowledgements: what each makes of the slots and of the table.
use Rattle.std.proofs.Common.{◌≡◌, ℕ, ◌<◌, ◌&&◌, Bool, true, false, nat_lt, Some, [], is_some, refl, sym, ap, ap₂, ◌∙◌, subst, arith}
use Rattle.std.proofs.lemmas.Bool.Decides.{nat_tests}
use Rattle.dash_base.specs.declared.id.ClusterId.{ClusterId}
use Rattle.dash_base.specs.declared.id.LineId.{LineId}
use Rattle.dash_base.specs.declared.line.Line.{Line}
use Rattle.dash_base.specs.Places.{line_count}
use Rattle.dash_base.specs.Places as places
use Rattle.dash_msg.specs.declared.msg.Msg.TheVariants.{Data, DataEx, Nak}
use Rattle.ack_counter.specs.View.{TableView, entry_at}
use Rattle.ack_counter.specs.Steps.{granted, cancelled}
use Rattle.remote_cache.specs.declared.slot.Slot.{Slot as Request}
use Rattle.remote_cache.specs.Rows.{on_data, on_data_ex, on_nak}
use Rattle.remote_cache.specs.View.{SlotsView, slot_at, slot_of, is_prefetch, IsOnePerLine}
use Rattle.remote_cache.specs.View as slots
use Rattle.remote_cache.specs.Steps.{after_reply, reply_met, met_by, number_met, change_in}
use Rattle.dash_model.specs.Config.{Config, first_prefetch}
use Rattle.dash_model.specs.Cell.{Acks, NoAcks}
use Rattle.dash_model.specs.Part.{Part}
use Rattle.dash_model.specs.Ranges.{has_line}
use Rattle.dash_model.specs.Replies.{arrive, arrive_own, expecting, expecting_for, nak_slot, nak_acks}
use Rattle.unit_rows.specs.Shown.{PartsView, slot_by, slot_in, slot_on, acks_by, Shows, AreSized}
use Rattle.unit_rows.specs.Takes.{Takes}
use Rattle.unit_rows.specs.Replies.{owns_request, prefetch_owns_at, prefetch_owns}
use Rattle.unit_rows.proofs.LineTakes.{turned, TakesOn, takes_line, takes_no_line}
use Rattle.unit_rows.proofs.SlotMet.{IsMet, is_met, OnLine, Nowhere, Somewhere, on_line}
use Rattle.unit_rows.proofs.SlotRows.{data_same, data_ex_same, nak_same, arrive_is, arrive_own_is, nak_is, granted_met, granted_not, nak_kept, nak_not, nak_gone}
use Rattle.unit_rows.proofs.MetTurns.{with_slots, slot_turns, sized_slots}
use Rattle.unit_rows.proofs.AckSteps.{AcksTurn, acks_stay, granted_turn, cancelled_turn}

-- a line that is none of memory
past : (w : Config) (l : LineId) (b : Bool) → nat_lt l.0 (line_count w.top) ≡ false → has_line w l && b ≡ false
past w l b e = ap (λ t. t && b) e

pub data_past : (w : Config) (c : ℕ) (v : PartsView) (from : ClusterId) (l : LineId) (d : Line) → nat_lt l.0 (line_count w.top) ≡ false → Takes w c from (Data l d) v v []
data_past w c v from l d e = takes_no_line w c from (Data l d) l v refl (λ p shows. past w l true e)

pub data_ex_past : (w : Config) (c : ℕ) (v : PartsView) (from : ClusterId) (l : LineId) (d : Line) (n : ℕ) → nat_lt l.0 (line_count w.top) ≡ false → Takes w c from (DataEx l d n) v v []
data_ex_past w c v from l d n e = takes_no_line w c from (DataEx l d n) l v refl (λ p shows. past w l true e)

pub nak_past : (w : Config) (c : ℕ) (v : PartsView) (from : ClusterId) (l : LineId) → nat_lt l.0 (line_count w.top) ≡ false → Takes w c from (Nak l) v v []
nak_past w c v from l e = takes_no_line w c from (Nak l) l v refl (λ p shows. past w l true e)

-- the first prefetch slot, and what a slot on a line met
first_is : (w : Config) (c : ℕ) (v : PartsView) → AreSized w c v → first_prefetch w ≡ slots.first_prefetch v.slots
first_is w c v z = ap places.first_prefetch (sym z.slot_harts)

met_number : (v : SlotsView) (row : Bool → Request → _) (l n : ℕ) (s : Request) → slot_of v l ≡ Some n → slot_at v n ≡ Some s → met_by v row (slot_of v l) ≡ number_met n (row (is_prefetch v n) s)
met_number v row l n s found at = ap (met_by v row) found ∙ ap (λ o. number_met n (change_in (row (is_prefetch v n)) o)) at

slot_there_is : (w : Config) (c : ℕ) (v : SlotsView) (l n : ℕ) (s : Request) → slot_of v l ≡ Some n → slot_at v n ≡ Some s → slot_on w c v l ≡ slot_by w c n (Some s)
slot_there_is w c v l n s found at = ap (slot_in w c v) found ∙ ap (slot_by w c n) at

module _ (w : Config) (c : ℕ) (v : PartsView) (l : LineId) (z : AreSized w c v) (one : IsOnePerLine v.slots.slots) (inside : nat_lt l.0 (line_count w.top) ≡ true) where
  low : l.0 < line_count w.top
  low = let t = inside in grind (arith, nat_tests)

  -- Data
  pub data_met : (d : Line) → IsMet w c v.slots (after_reply v.slots (Data l d)) l.0 (arrive (slots.first_prefetch v.slots) d)
  data_met d = is_met w c v.slots (λ prefetch s. on_data prefetch d s s.own s.phase) l.0 (arrive (slots.first_prefetch v.slots) d) one z.slots_in_range refl (λ n s. data_same (is_prefetch v.slots n) d s s.own s.phase) (λ n s. arrive_is w c (slots.first_prefetch v.slots) n d s.hart s.line s.own s.phase)

  stay : (p : Part) → Shows w c v p → AcksTurn w c v.acks v.acks l.0 (p.cells l.0).acks
  stay p s = acks_stay w c v.acks l.0 (p.cells l.0).acks z.acks_in_range (s.acks l.0)

  data_on : (from : ClusterId) (d : Line) (p : Part) → Shows w c v p → TakesOn w c from (Data l d) l v (with_slots v (after_reply v.slots (Data l d)) v.acks) [] p
  data_on from d p s = record {
    applied = ap (λ b. b && true) inside;
    turns = slot_turns w c v p l.0 (turned w c from (Data l d) l p) (after_reply v.slots (Data l d)) v.acks s refl
        (ap₂ (λ k x. arrive k d x) (first_is w c v z) (s.slots l.0) ∙ (data_met d).here) (data_met d).there (stay p s) refl;
    sent_is = refl;
  }

  pub takes_data : (from : ClusterId) (d : Line) → Takes w c from (Data l d) v (with_slots v (after_reply v.slots (Data l d)) v.acks) []
  takes_data from d = takes_line w c from (Data l d) l v (with_slots v (after_reply v.slots (Data l d)) v.acks) [] refl (data_on from d)

  pub sized_data : (d : Line) → AreSized w c (with_slots v (after_reply v.slots (Data l d)) v.acks)
  sized_data d = sized_slots w c v (after_reply v.slots (Data l d)) v.acks z (data_met d).fit (record { capacity = refl; in_range = z.acks_in_range })

  -- DataEx
  pub data_ex_met : (d : Line) (n : ℕ) → IsMet w c v.slots (after_reply v.slots (DataEx l d n)) l.0 (arrive_own d)
  data_ex_met d n = is_met w c v.slots (λ prefetch s. on_data_ex d s s.own s.phase) l.0 (arrive_own d) one z.slots_in_range refl (λ m s. data_ex_same d s s.own s.phase) (λ m s. arrive_own_is w c m d s.hart s.line s.own s.phase)

  is_granted : (d : Line) (n : ℕ) (a : Acks) → OnLine v.slots l.0 → is_some (reply_met v.slots (DataEx l d n)) ≡ true → expecting_for n (slot_on w c v.slots l.0) a ≡ expecting n a
  is_granted d n a (Nowhere e) met = absurd (let t : false ≡ true = sym (ap (λ o. is_some (met_by v.slots (λ prefetch s. on_data_ex d s s.own s.phase) o)) e) ∙ met in cc)
  is_granted d n a (Somewhere m s e at) met =
      ap (λ x. expecting_for n x a) (slot_there_is w c v.slots l.0 m s e at)
      ∙ granted_met w c m d n s.hart s.line s.own s.phase a (sym (ap is_some (met_number v.slots (λ prefetch x. on_data_ex d x x.own x.phase) l.0 m s e at)) ∙ met)

  not_granted : (d : Line) (n : ℕ) (a : Acks) → OnLine v.slots l.0 → is_some (reply_met v.slots (DataEx l d n)) ≡ false → expecting_for n (slot_on w c v.slots l.0) a ≡ a
  not_granted d n a (Nowhere e) met = ap (λ o. expecting_for n (slot_in w c v.slots o) a) e
  not_granted d n a (Somewhere m s e at) met =
      ap (λ x. expecting_for n x a) (slot_there_is w c v.slots l.0 m s e at)
      ∙ granted_not w c m d n s.hart s.line s.own s.phase a (sym (ap is_some (met_number v.slots (λ prefetch x. on_data_ex d x x.own x.phase) l.0 m s e at)) ∙ met)

  abbrev Settles : (d : Line) (n : ℕ) (t : TableView) → Type 0
  Settles d n t = AcksTurn w c v.acks t l.0 (expecting_for n (slot_on w c v.slots l.0) (acks_by w c (entry_at v.acks l.0)))

  pub grants_acks : (d : Line) (n : ℕ) → is_some (reply_met v.slots (DataEx l d n)) ≡ true → Settles d n (granted v.acks l.0 n)
  grants_acks d n met = subst (λ a. AcksTurn w c v.acks (granted v.acks l.0 n) l.0 a) (sym (is_granted d n (acks_by w c (entry_at v.acks l.0)) (on_line v.slots l.0) met)) (granted_turn w c v.acks l.0 n z.acks_in_range low)

  pub leaves_acks : (d : Line) (n : ℕ) → is_some (reply_met v.slots (DataEx l d n)) ≡ false → Settles d n v.acks
  leaves_acks d n met = acks_stay w c v.acks l.0 _ z.acks_in_range (not_granted d n (acks_by w c (entry_at v.acks l.0)) (on_line v.slots l.0) met)

  data_ex_on : (from : ClusterId) (d : Line) (n : ℕ) (t : TableView) → Settles d n t → (p : Part) → Shows w c v p → TakesOn w c from (DataEx l d n) l v (with_slots v (after_reply v.slots (DataEx l d n)) t) [] p
  data_ex_on from d n t settles p s = record {
    applied = ap (λ b. b && true) inside;
    turns = slot_turns w c v p l.0 (turned w c from (DataEx l d n) l p) (after_reply v.slots (DataEx l d n)) t s refl
        (ap (arrive_own d) (s.slots l.0) ∙ (data_ex_met d n).here) (data_ex_met d n).there
        (subst (λ a. AcksTurn w c v.acks t l.0 a) (sym (ap₂ (expecting_for n) (s.slots l.0) (s.acks l.0))) settles) refl;
    sent_is = refl;
  }

  pub takes_data_ex : (from : ClusterId) (d : Line) (n : ℕ) (t : TableView) → Settles d n t → Takes w c from (DataEx l d n) v (with_slots v (after_reply v.slots (DataEx l d n)) t) []
  takes_data_ex from d n t settles = takes_line w c from (DataEx l d n) l v (with_slots v (after_reply v.slots (DataEx l d n)) t) [] refl (data_ex_on from d n t settles)

  pub sized_data_ex : (d : Line) (n : ℕ) (t : TableView) → Settles d n t → AreSized w c (with_slots v (after_reply v.slots (DataEx l d n)) t)
  sized_data_ex d n t settles = sized_slots w c v (after_reply v.slots (DataEx l d n)) t z (data_ex_met d n).fit settles.fit

  -- Nak
  pub nak_met : IsMet w c v.slots (after_reply v.slots (Nak l)) l.0 (nak_slot (slots.first_prefetch v.slots))
  nak_met = is_met w c v.slots (λ prefetch s. on_nak prefetch s s.phase) l.0 (nak_slot (slots.first_prefetch v.slots)) one z.slots_in_range refl (λ n s. nak_same (is_prefetch v.slots n) s s.phase) (λ n s. nak_is w c (slots.first_prefetch v.slots) n s.hart s.line s.own s.phase)

  owns_is : (n : ℕ) (s : Request) → slot_of v.slots l.0 ≡ Some n → slot_at v.slots n ≡ Some s → prefetch_owns v.slots l.0 ≡ is_prefetch v.slots n && s.own
  owns_is n s e at = ap (prefetch_owns_at v.slots) e ∙ ap (λ o. is_prefetch v.slots n && owns_request o) at

  acks_left : (a : Acks) → OnLine v.slots l.0 → prefetch_owns v.slots l.0 ≡ false → nak_acks (slots.first_prefetch v.slots) (slot_on w c v.slots l.0) a ≡ a
  acks_left a (Nowhere e) owned = ap (λ o. nak_acks (slots.first_prefetch v.slots) (slot_in w c v.slots o) a) e
  acks_left a (Somewhere n s e at) owned = ap (λ x. nak_acks (slots.first_prefetch v.slots) x a) (slot_there_is w c v.slots l.0 n s e at) ∙ nak_kept w c (slots.first_prefetch v.slots) n s.hart s.line s.own s.phase a (sym (owns_is n s e at) ∙ owned)

  acks_unmet : (a : Acks) → OnLine v.slots l.0 → is_some (reply_met v.slots (Nak l)) ≡ false → nak_acks (slots.first_prefetch v.slots) (slot_on w c v.slots l.0) a ≡ a
  acks_unmet a (Nowhere e) met = ap (λ o. nak_acks (slots.first_prefetch v.slots) (slot_in w c v.slots o) a) e
  acks_unmet a (Somewhere n s e at) met = ap (λ x. nak_acks (slots.first_prefetch v.slots) x a) (slot_there_is w c v.slots l.0 n s e at) ∙ nak_not w c (slots.first_prefetch v.slots) n s.hart s.line s.own s.phase a (sym (ap is_some (met_number v.slots (λ prefetch x. on_nak prefetch x x.phase) l.0 n s e at)) ∙ met)

  acks_gone : (a : Acks) → OnLine v.slots l.0 → prefetch_owns v.slots l.0 ≡ true → is_some (reply_met v.slots (Nak l)) ≡ true → nak_acks (slots.first_prefetch v.slots) (slot_on w c v.slots l.0) a ≡ NoAcks
  acks_gone a (Nowhere e) owned met = absurd (let t : false ≡ true = sym (ap (prefetch_owns_at v.slots) e) ∙ owned in cc)
  acks_gone a (Somewhere n s e at) owned met = ap (λ x. nak_acks (slots.first_prefetch v.slots) x a) (slot_there_is w c v.slots l.0 n s e at) ∙ nak_gone w c (slots.first_prefetch v.slots) n s.hart s.line s.own s.phase a (sym (owns_is n s e at) ∙ owned) (sym (ap is_some (met_number v.slots (λ prefetch x. on_nak prefetch x x.phase) l.0 n s e at)) ∙ met)

  abbrev NakSettles : TableView → Type 0
  NakSettles t = AcksTurn w c v.acks t l.0 (nak_acks (slots.first_prefetch v.slots) (slot_on w c v.slots l.0) (acks_by w c (entry_at v.acks l.0)))

  pub nak_leaves : prefetch_owns v.slots l.0 ≡ false → NakSettles v.acks
  nak_leaves owned = acks_stay w c v.acks l.0 _ z.acks_in_range (acks_left (acks_by w c (entry_at v.acks l.0)) (on_line v.slots l.0) owned)

  pub nak_misses : is_some (reply_met v.slots (Nak l)) ≡ false → NakSettles v.acks
  nak_misses met = acks_stay w c v.acks l.0 _ z.acks_in_range (acks_unmet (acks_by w c (entry_at v.acks l.0)) (on_line v.slots l.0) met)

  pub nak_cancels : prefetch_owns v.slots l.0 ≡ true → is_some (reply_met v.slots (Nak l)) ≡ true → NakSettles (cancelled v.acks l.0)
  nak_cancels owned met = subst (λ a. AcksTurn w c v.acks (cancelled v.acks l.0) l.0 a) (sym (acks_gone (acks_by w c (entry_at v.acks l.0)) (on_line v.slots l.0) owned met)) (cancelled_turn w c v.acks l.0 z.acks_in_range)

  nak_on : (from : ClusterId) (t : TableView) → NakSettles t → (p : Part) → Shows w c v p → TakesOn w c from (Nak l) l v (with_slots v (after_reply v.slots (Nak l)) t) [] p
  nak_on from t settles p s = record {
    applied = ap (λ b. b && true) inside;
    turns = slot_turns w c v p l.0 (turned w c from (Nak l) l p) (after_reply v.slots (Nak l)) t s refl
        (ap₂ nak_slot (first_is w c v z) (s.slots l.0) ∙ nak_met.here) nak_met.there
        (subst (λ a. AcksTurn w c v.acks t l.0 a) (sym (ap₂ (λ k x. nak_acks k x (p.cells l.0).acks) (first_is w c v z) (s.slots l.0) ∙ ap (nak_acks (slots.first_prefetch v.slots) (slot_on w c v.slots l.0)) (s.acks l.0))) settles) refl;
    sent_is = refl;
  }

  pub takes_nak : (from : ClusterId) (t : TableView) → NakSettles t → Takes w c from (Nak l) v (with_slots v (after_reply v.slots (Nak l)) t) []
  takes_nak from t settles = takes_line w c from (Nak l) l v (with_slots v (after_reply v.slots (Nak l)) t) [] refl (nak_on from t settles)

  pub sized_nak : (t : TableView) → NakSettles t → AreSized w c (with_slots v (after_reply v.slots (Nak l)) t)
  sized_nak t settles = sized_slots w c v (after_reply v.slots (Nak l)) t z nak_met.fit settles.fit
