-- What each event does to the reservations of its cluster's harts: LR makes one, SC clears it, and clearing a copy clears those in it; so a reservation's line is held by its hart.
use Rattle.std.proofs.Common.{Bool, List, None, Option, Some, [], ap, cond, false, inl, inr, not, refl, subst, sym, true, unwrap_or, ℕ, ◌&&◌, ◌++◌, ◌<◌, ◌==◌, ◌∙◌, ◌∷◌, ◌≡◌}
use Rattle.dash_base.specs.declared.id.ClusterId.{ClusterId}
use Rattle.dash_base.specs.declared.id.LineId.{LineId}
use Rattle.dash_base.specs.declared.instr.Labels.{Labels}
use Rattle.dash_base.specs.declared.need.HintKind.TheVariants.{Exclusive, Fetch, Shared}
use Rattle.dash_base.specs.declared.need.Need.{Need}
use Rattle.dash_base.specs.declared.need.Need.TheVariants as needed
use Rattle.dash_msg.specs.declared.msg.Msg.{Msg}
use Rattle.dash_msg.specs.declared.msg.Msg.TheVariants.{Ack, Data, DataEx, FwdRead, FwdReadEx, Inval, LockAsk, LockGrant, Nak, Read, ReadEx, SharingBack, Transfer, TransferAck, Unlock, UnlockAck, WriteBack}
use Rattle.dash_event.specs.Effects.{reply}
use Rattle.dash_event.specs.Offered.{load_op, offered}
use Rattle.dash_event.specs.Records.{accesses_in, unseen}
use Rattle.dash_event.specs.declared.access.Access.{Access}
use Rattle.dash_event.specs.declared.access.Op.{Op}
use Rattle.dash_event.specs.declared.access.Op.TheVariants as op
use Rattle.dash_event.specs.declared.event.Kind.{Kind}
use Rattle.dash_event.specs.declared.event.Kind.TheVariants as kind
use Rattle.write_buffer.specs.Look.{look_by, newest_of}
use Rattle.write_buffer.specs.declared.entry.Entry.{Entry as Stored}
use Rattle.write_buffer.specs.declared.entry.Look.{Look}
use Rattle.write_buffer.specs.declared.entry.Look.TheVariants.{Hit, None as NoStore, Wait}
use Rattle.hart_core.proofs.LawsOffered.{needs_of, proper}
use Rattle.hart_core.specs.Access.{IsProper}
use Rattle.hart_core.specs.HartState.{HartState}
use Rattle.dash_model.specs.Acts.{Act, Again, AskOwn, AskRead, BusOwn, BusRead, Commit, Install, act_row}
use Rattle.dash_model.specs.Cell.{Cell, NoSlot, Owns, Reads, Slot}
use Rattle.dash_model.specs.Config.{Config, cluster_of, first_prefetch, home_of, line_at, line_id, lines, lock_at}
use Rattle.dash_model.specs.Guard.{Guard}
use Rattle.dash_model.specs.HartGuards.{LoadsBy, Retires, number_of}
use Rattle.dash_model.specs.HartRows.{HartEffect, acts, ask_act, cleared, cleared_where_lost, commit_row, entry_of, evict_act, hint_row, kept, load_row, loaded_from, lock_send_row, on_line, reserving, retire, rmw_reserved, sc_fail_row, store_row, unreserved}
use Rattle.dash_model.specs.LineEffect.{LineEffect}
use Rattle.dash_model.specs.LineRows.{take_row}
use Rattle.dash_model.specs.LockRows.{answered, free_row, grant_row}
use Rattle.dash_model.specs.Maps.{upd}
use Rattle.dash_model.specs.Part.{Part, Processor, Waiter}
use Rattle.dash_model.specs.Ranges.{applies}
use Rattle.dash_model.specs.Replay.{IsRmw}
use Rattle.dash_model.specs.Row.{line_msg_row, msg_row, msg_row_if, row}
use Rattle.dash_model.specs.Words.{content, held_by, word_in, written_in}
use Rattle.dash_model.proofs.Facts.{held}
use Rattle.dash_model.proofs.Nowhere.{inside_line}
use Rattle.dash_model.proofs.Tests.{is_same, not_same}
use Rattle.dash_model.proofs.HartTurns.{load_made, rmw_is}

-- an access by which a reservation begins or ends: LR and SC
abbrev pub IsUse : Op → Type 0
IsUse op.Reserve = Unit {0}
IsUse op.Cond = Unit {0}
IsUse kind = ⊥

-- the event is neither of hart h
abbrev pub NoUse : Kind → ℕ → Type 0
NoUse e h = (b : Access) → accesses_in e ≡ b ∷ [] → b.hart.0 ≡ h → IsUse b.op → ⊥

-- a hart keeps its reservation or has none
abbrev pub Fewer : Processor → Processor → Type 0
Fewer s t = (a : ℕ) → t.reserved ≡ Some a → s.reserved ≡ Some a

-- an event that makes no reservation of the hart: it is neither LR nor SC of it, or leaves none
pub data Lesser (e : Kind) (h : ℕ) (s t : Processor) : Type 0 where
  Old : NoUse e h → Fewer s t → Lesser e h s t
  Gone : t.reserved ≡ None → Lesser e h s t

-- LR of the hart, which holds the line
pub record Reserves (w : Config) (e : Kind) (h : ℕ) (p : Part) (t : Processor) : Type 0 where
  pub access : Access
  pub level : ℕ
  pub is : e ≡ kind.Load access level
  pub is_reserve : access.op ≡ op.Reserve
  pub mine : access.hart.0 ≡ h
  pub reserved : t.reserved ≡ Some access.word.0
  pub held : held_by h (p.cells (line_at w access.word.0)).copy ≡ true
  pub inside : line_at w access.word.0 < lines w

pub data Reserving (w : Config) (e : Kind) (h : ℕ) (p : Part) (s t : Processor) : Type 0 where
  New : Reserves w e h p t → Reserving w e h p s t
  Less : Lesser e h s t → Reserving w e h p s t

-- each reservation's line is held by its hart
abbrev pub AreHeld : Config → Part → Type 0
AreHeld w p = (h a : ℕ) → (p.harts h).reserved ≡ Some a → held_by h (p.cells (line_at w a)).copy ≡ true

-- what an event makes of the reservations of its part
pub record ReservationView (w : Config) (e : Kind) (p q : Part) : Type 0 where
  pub each : (h : ℕ) → Reserving w e h p (p.harts h) (q.harts h)
  pub held : AreHeld w p → AreHeld w q

module _ (w : Config) where
  unreserved_by : (l y a : ℕ) (b : Bool) → (line_at w y == l) ≡ b → cond b None (Some y) ≡ Some a → (Some y ≡ Some a) × ((line_at w a == l) ≡ false)
  unreserved_by l y a true is e = absurd (cc)
  unreserved_by l y a false is e = let same : y ≡ a = cc in (e, ap (λ z. line_at w z == l) (sym same) ∙ is)

  unreserved_some : (l a : ℕ) (r : Option ℕ) → unreserved w l r ≡ Some a → (r ≡ Some a) × ((line_at w a == l) ≡ false)
  unreserved_some l a None e = absurd (cc)
  unreserved_some l a (Some y) e = unreserved_by l y a (line_at w y == l) refl e

  cleared_fewer : (l : ℕ) (b : Bool) (t : Processor) → Fewer t (cond b (cleared w l t) t)
  cleared_fewer l true t a e = (unreserved_some l a t.reserved e).0
  cleared_fewer l false t a e = e

  unreserved_none : (l : ℕ) (r : Option ℕ) → r ≡ None → unreserved w l r ≡ None
  unreserved_none l None e = refl
  unreserved_none l (Some y) e = absurd (cc)

  cleared_none : (l : ℕ) (b : Bool) (t : Processor) → t.reserved ≡ None → (cond b (cleared w l t) t).reserved ≡ None
  cleared_none l true t e = unreserved_none l t.reserved e
  cleared_none l false t e = e

  kept_fewer : (l : ℕ) (slot : Slot) (b : Bool) (s : Processor) → Fewer s (kept w l slot b s)
  kept_fewer l (Owns n t phase) false s a e = (unreserved_some l a s.reserved e).0
  kept_fewer l (Owns n t phase) true s a e = e
  kept_fewer l (Reads n t phase) b s a e = e
  kept_fewer l NoSlot b s a e = e

  -- a row of a line
  held_row : (l h a : ℕ) (before next : Bool) (t : Processor) → (line_at w a == l) ≡ true → before ≡ true → (cond (before && not next) (cleared w l t) t).reserved ≡ Some a → next ≡ true
  held_row l h a before true t same was e = refl
  held_row l h a true false t same was e = let other = (unreserved_some l a t.reserved e).1 in absurd (cc)
  held_row l h a false false t same was e = absurd (cc)

  lined_held_by : (l : ℕ) (x : LineEffect) (p : Part) (t : Processor) (h a : ℕ) (i : Bool) → (line_at w a == l) ≡ i → (t.reserved ≡ Some a → held_by h (p.cells (line_at w a)).copy ≡ true)
      → (cleared_where_lost w l (p.cells l).copy x.cell.copy h t).reserved ≡ Some a → held_by h (cond i x.cell (p.cells (line_at w a))).copy ≡ true
  lined_held_by l x p t h a true is held e =
      let same = is_same (line_at w a) l is in
      let was = held (cleared_fewer l (held_by h (p.cells l).copy && not (held_by h x.cell.copy)) t a e) in
      held_row l h a (held_by h (p.cells l).copy) (held_by h x.cell.copy) t is (ap (λ y. held_by h (p.cells y).copy) (sym same) ∙ was) e
  lined_held_by l x p t h a false is held e = held (cleared_fewer l (held_by h (p.cells l).copy && not (held_by h x.cell.copy)) t a e)

  module _ (e : Kind) (p : Part) where
    held_now : (h a : ℕ) (s t : Processor) → Reserving w e h p s t → (s.reserved ≡ Some a → held_by h (p.cells (line_at w a)).copy ≡ true) → t.reserved ≡ Some a → held_by h (p.cells (line_at w a)).copy ≡ true
    held_now h a s t (New r) k is = let first = r.reserved in let same : r.access.word.0 ≡ a = cc in subst (λ y. held_by h (p.cells (line_at w y)).copy ≡ true) same r.held
    held_now h a s t (Less (Old none fewer)) k is = k (fewer a is)
    held_now h a s t (Less (Gone none)) k is = absurd (cc)

    held_each : (q : Part) → q.cells ≡ p.cells → ((h : ℕ) → Reserving w e h p (p.harts h) (q.harts h)) → AreHeld w p → AreHeld w q
    held_each q cells each k h a is = subst (λ (f : ℕ → Cell). held_by h (f (line_at w a)).copy ≡ true) (sym cells) (held_now h a (p.harts h) (q.harts h) (each h) (k h a) is)

    quiet_view : (q : Part) → q.cells ≡ p.cells → ((h : ℕ) → Reserving w e h p (p.harts h) (q.harts h)) → ReservationView w e p q
    quiet_view q cells each = record { each = each; held = held_each q cells each }

    lined_less : (l h : ℕ) (s t : Processor) (b : Bool) → Lesser e h s t → Lesser e h s (cond b (cleared w l t) t)
    lined_less l h s t b (Old none fewer) = Old none (λ a is. fewer a (cleared_fewer l b t a is))
    lined_less l h s t b (Gone none) = Gone (cleared_none l b t none)

    lined_view : (l : ℕ) (x : LineEffect) (hs : ℕ → Processor) → ((h : ℕ) → Lesser e h (p.harts h) (hs h)) → ReservationView w e p (on_line w l x (record p { harts = hs })).part
    lined_view l x hs each = record {
      each = λ h. Less (lined_less l h (p.harts h) (hs h) (held_by h (p.cells l).copy && not (held_by h x.cell.copy)) (each h));
      held = λ k h a is. lined_held_by l x p (hs h) h a (line_at w a == l) refl (held_each (record p { harts = hs }) refl (λ j. Less (each j)) k h a) is;
    }

    acted_view : (l : ℕ) (a : Act) (hs : ℕ → Processor) → ((h : ℕ) → Lesser e h (p.harts h) (hs h)) → ReservationView w e p (acts w l a (record p { harts = hs })).part
    acted_view l a hs each = lined_view l (act_row (line_id l) (home_of w l) a (p.cells l) (p.homes l)) hs each

    -- an event that accesses no word
    none_used : accesses_in e ≡ [] → (h : ℕ) → NoUse e h
    none_used none h b is mine uses = absurd (cc)

    -- one whose access is of another kind
    not_used : (a : Access) (o : Op) → accesses_in e ≡ a ∷ [] → a.op ≡ o → (IsUse o → ⊥) → (h : ℕ) → NoUse e h
    not_used a o is of other h b there mine uses = let same : a ≡ b = cc (is, there) in other (subst IsUse of (subst (λ (x : Access). IsUse x.op) (sym same) uses))

    -- the access is hart g's
    at_hart : (g h : ℕ) (t : Processor) (b : Bool) → (h == g) ≡ b → ((x : Access) → accesses_in e ≡ x ∷ [] → x.hart.0 ≡ g) → Lesser e g (p.harts g) t → Lesser e h (p.harts h) (cond b t (p.harts h))
    at_hart g h t true is whose k = subst (λ y. Lesser e y (p.harts y) t) (sym (is_same h g is)) k
    at_hart g h t false is whose k = Old (λ x there mine uses. not_same h g is (sym mine ∙ whose x there)) (λ a r. r)

    stay : ((h : ℕ) → NoUse e h) → (h : ℕ) → Lesser e h (p.harts h) (p.harts h)
    stay none h = Old (none h) (λ a r. r)

    -- a hart changes, with no access
    changed_less : accesses_in e ≡ [] → (g h : ℕ) (t : Processor) → Fewer (p.harts g) t → Lesser e h (p.harts h) (upd p.harts g t h)
    changed_less none g h t fewer = at_hart g h t (h == g) refl (λ x is. absurd (cc)) (Old (none_used none g) fewer)

    -- or with one
    accessed_less : (a : Access) → accesses_in e ≡ a ∷ [] → (h : ℕ) (t : Processor) → Lesser e a.hart.0 (p.harts a.hart.0) t → Lesser e h (p.harts h) (upd p.harts a.hart.0 t h)
    accessed_less a is h t k = at_hart a.hart.0 h t (h == a.hart.0) refl (λ x there. (let same : a ≡ x = cc (is, there) in ap (λ (y : Access). y.hart.0) (sym same))) k

    drained_view : (g l : ℕ) (b : List Stored) → accesses_in e ≡ [] → ReservationView w e p (commit_row w g l b p).part
    drained_view g l [] none = quiet_view p refl (λ h. Less (stay (none_used none) h))
    drained_view g l (x ∷ xs) none =
        let next = record (p.harts g) { buffer = xs } in
        acted_view l (Commit g (written_in w x.word.0 x.mask x.value (content (p.cells l).copy))) (upd p.harts g next) (λ h. changed_less none g h next (λ a r. r))

    retired_less : (g : ℕ) (d : HartEffect) → accesses_in e ≡ [] → (h : ℕ) → Lesser e h (p.harts h) ((retire g d p).harts h)
    retired_less g d none h = changed_less none g h (record (p.harts g) { core = d.next }) (λ a r. r)

    hinted_view : (g : ℕ) (slot : Option ℕ) (need : Need) (d : HartEffect) → accesses_in e ≡ [] → ReservationView w e p (hint_row w g slot need (retire g d p)).part
    hinted_view g (Some n) (needed.Hint Exclusive a) d none = acted_view (line_at w a) (AskOwn n g) (retire g d p).harts (retired_less g d none)
    hinted_view g (Some n) (needed.Hint Shared a) d none = acted_view (line_at w a) (AskRead n g) (retire g d p).harts (retired_less g d none)
    hinted_view g (Some n) (needed.Hint Fetch a) d none = acted_view (line_at w a) (AskRead n g) (retire g d p).harts (retired_less g d none)
    hinted_view g _ need d none = quiet_view (retire g d p) refl (λ h. Less (retired_less g d none h))

    granted_view : (i : ℕ) (q : List Waiter) → ((h : ℕ) → NoUse e h) → ReservationView w e p (grant_row w i q p).part
    granted_view i [] none = quiet_view p refl (λ h. Less (stay none h))
    granted_view i (x ∷ xs) none = quiet_view (grant_row w i (x ∷ xs) p).part refl (λ h. Less (stay none h))

    taken_line : (c f : ℕ) (l : LineId) (m : Msg) → accesses_in e ≡ [] → ReservationView w e p (line_msg_row w c f l m p).part
    taken_line c f l m none = lined_view l.0 (take_row (first_prefetch w) (home_of w l.0) c f m (p.cells l.0) (p.homes l.0)) p.harts (stay (none_used none))

    answered_view : (g : ℕ) (b : Bool) (d : HartEffect) → accesses_in e ≡ [] → ReservationView w e p (answered g b d p)
    answered_view g true d none = quiet_view (answered g true d p) refl (λ h. Less (changed_less none g h (record (p.harts g) { core = d.next; asked = false }) (λ a r. r)))
    answered_view g false d none = quiet_view p refl (λ h. Less (stay (none_used none) h))

    taken_view : (c : ℕ) (f : ClusterId) (m : Msg) (d : HartEffect) → accesses_in e ≡ [] → ReservationView w e p (msg_row w c f.0 m d p).part
    taken_view c f (Read q) d none = taken_line c f.0 q (Read q) none
    taken_view c f (ReadEx q) d none = taken_line c f.0 q (ReadEx q) none
    taken_view c f (FwdRead q r) d none = taken_line c f.0 q (FwdRead q r) none
    taken_view c f (FwdReadEx q r) d none = taken_line c f.0 q (FwdReadEx q r) none
    taken_view c f (Inval q r) d none = taken_line c f.0 q (Inval q r) none
    taken_view c f (WriteBack q x) d none = taken_line c f.0 q (WriteBack q x) none
    taken_view c f (SharingBack q x r) d none = taken_line c f.0 q (SharingBack q x r) none
    taken_view c f (Transfer q r) d none = taken_line c f.0 q (Transfer q r) none
    taken_view c f (Data q x) d none = taken_line c f.0 q (Data q x) none
    taken_view c f (DataEx q x n) d none = taken_line c f.0 q (DataEx q x n) none
    taken_view c f (Ack q) d none = taken_line c f.0 q (Ack q) none
    taken_view c f (TransferAck q) d none = taken_line c f.0 q (TransferAck q) none
    taken_view c f (Nak q) d none = taken_line c f.0 q (Nak q) none
    taken_view c f (LockAsk t n word v) d none = quiet_view (msg_row w c f.0 (LockAsk t n word v) d p).part refl (λ h. Less (stay (none_used none) h))
    taken_view c f (Unlock t n word) d none = quiet_view p refl (λ h. Less (stay (none_used none) h))
    taken_view c f (LockGrant t) d none = answered_view t.0 (p.harts t.0).asked d none
    taken_view c f (UnlockAck t old) d none = answered_view t.0 (p.harts t.0).asked d none

    taken_if : (c : ℕ) (f : ClusterId) (m : Msg) (d : HartEffect) (b : Bool) → accesses_in e ≡ [] → ReservationView w e p (msg_row_if b w c f.0 m d p).part
    taken_if c f m d true none = taken_view c f m d none
    taken_if c f m d false none = quiet_view p refl (λ h. Less (stay (none_used none) h))

  -- a load, by what the write buffer tells it
  loaded_old : (a : Access) (l : ℕ) (look : Look) (s : Processor) → a.op ≡ op.Load → Fewer s (loaded_from w a l look s)
  loaded_old a l (Hit v k) s is b r = r
  loaded_old a l _ s is b r = sym (ap (λ o. reserving o a.word.0 s.reserved) is) ∙ r

  module _ (c : ℕ) (a : Access) (level : ℕ) (d : HartEffect) (p : Part) (labels : Labels) (can : Retires w c a.hart.0 (needed.Load a.word a.mask labels true) (reply a.read a.written) d p) where
    inside : line_at w a.word.0 < lines w
    inside = inside_line w a.word.0 (subst (IsProper w.top) can.need_is (proper w.image w.top (p.harts a.hart.0).core d.need (needs_of w.image w.top (p.harts a.hart.0).core d.next d.need (reply a.read a.written) can.does)))

  loaded_new : (c : ℕ) (a : Access) (level : ℕ) (d : HartEffect) (p : Part) (labels : Labels) (reserve : Bool) (look : Look) → Retires w c a.hart.0 (needed.Load a.word a.mask labels reserve) (reply a.read a.written) d p → LoadsBy w look a level reserve d p
      → Reserving w (kind.Load a level) a.hart.0 p (p.harts a.hart.0) (loaded_from w a (line_at w a.word.0) look (record (p.harts a.hart.0) { core = d.next }))
  loaded_new c a level d p labels reserve (Hit value number) can from =
      let made = subst (λ n. Some (unseen a) ≡ offered a.hart.0 (number_of a.hart.0 p) n value false) can.need_is from.access.made in
      let is : a.op ≡ op.Load = load_made a.hart.0 (number_of a.hart.0 p) a.word a.mask labels reserve value a made ∙ ap load_op from.plain in
      Less (Old (not_used (kind.Load a level) p a op.Load refl is (λ x. x) a.hart.0) (λ b r. r))
  loaded_new c a level d p labels reserve Wait can from = absurd from
  loaded_new c a level d p labels true NoStore can from =
      let made = subst (λ n. Some (unseen a) ≡ offered a.hart.0 (number_of a.hart.0 p) n (word_in w a.word.0 (content (p.cells (line_at w a.word.0)).copy)) false) can.need_is from.access.made in
      let is : a.op ≡ op.Reserve = load_made a.hart.0 (number_of a.hart.0 p) a.word a.mask labels true (word_in w a.word.0 (content (p.cells (line_at w a.word.0)).copy)) a made in
      New (record { access = a; level = level; is = refl; is_reserve = is; mine = refl; reserved = ap (λ o. reserving o a.word.0 (p.harts a.hart.0).reserved) is; held = from.holder; inside = inside c a level d p labels can })
  loaded_new c a level d p labels false NoStore can from =
      let made = subst (λ n. Some (unseen a) ≡ offered a.hart.0 (number_of a.hart.0 p) n (word_in w a.word.0 (content (p.cells (line_at w a.word.0)).copy)) false) can.need_is from.access.made in
      let is : a.op ≡ op.Load = load_made a.hart.0 (number_of a.hart.0 p) a.word a.mask labels false (word_in w a.word.0 (content (p.cells (line_at w a.word.0)).copy)) a made in
      Less (Old (not_used (kind.Load a level) p a op.Load refl is (λ x. x) a.hart.0) (λ b r. sym (ap (λ o. reserving o a.word.0 (p.harts a.hart.0).reserved) is) ∙ r))

  -- other harts keep theirs at a load
  load_each : (a : Access) (level h : ℕ) (p : Part) (t : Processor) (b : Bool) → (h == a.hart.0) ≡ b → Reserving w (kind.Load a level) a.hart.0 p (p.harts a.hart.0) t → Reserving w (kind.Load a level) h p (p.harts h) (cond b t (p.harts h))
  load_each a level h p t true is k = subst (λ y. Reserving w (kind.Load a level) y p (p.harts y) t) (sym (is_same h a.hart.0 is)) k
  load_each a level h p t false is k = Less (Old (λ x there mine uses. (let same : a ≡ x = cc in not_same h a.hart.0 is (sym mine ∙ ap (λ (y : Access). y.hart.0) (sym same)))) (λ b r. r))

  -- an atomic operation of the hart
  rmw_less : (a : Access) (l : LineId) (v : ℕ) (p : Part) (next : HartState) → IsRmw a → Lesser (kind.Rmw a l v) a.hart.0 (p.harts a.hart.0) (record (p.harts a.hart.0) { core = next; reserved = rmw_reserved a.op (p.harts a.hart.0).reserved })
  rmw_less a l v p next (inl amo) = Old (not_used (kind.Rmw a l v) p a op.Amo refl amo (λ x. x) a.hart.0) (λ b r. sym (ap (λ o. rmw_reserved o (p.harts a.hart.0).reserved) amo) ∙ r)
  rmw_less a l v p next (inr sc) = Gone (ap (λ o. rmw_reserved o (p.harts a.hart.0).reserved) sc.0)

-- each event
pub reservations : (w : Config) (c : ℕ) (e : Kind) (d : HartEffect) (p : Part) → Guard w c e d p → ReservationView w e p (row w c e d p).part
unfolding row Guard
reservations w c (kind.Alu h pc) d p can = quiet_view w (kind.Alu h pc) p (retire h.0 d p) refl (λ k. Less (retired_less w (kind.Alu h pc) p h.0 d refl k))
reservations w c (kind.Fence h pc) d p can = quiet_view w (kind.Fence h pc) p (retire h.0 d p) refl (λ k. Less (retired_less w (kind.Fence h pc) p h.0 d refl k))
reservations w c (kind.Hint h pc slot) d p can = hinted_view w (kind.Hint h pc slot) p h.0 slot d.need d refl
reservations w c (kind.Put h pc byte) d p can = quiet_view w (kind.Put h pc byte) p (retire h.0 d p) refl (λ k. Less (retired_less w (kind.Put h pc byte) p h.0 d refl k))
reservations w c (kind.Stop h pc end) d p can = quiet_view w (kind.Stop h pc end) p (retire h.0 d p) refl (λ k. Less (retired_less w (kind.Stop h pc end) p h.0 d refl k))
reservations w c (kind.Load a level) d p can =
    let look = look_by (newest_of a.word.0 (p.harts a.hart.0).buffer) a.mask in
    let t = loaded_from w a (line_at w a.word.0) look (record (p.harts a.hart.0) { core = d.next }) in
    quiet_view w (kind.Load a level) p (load_row w a d p).part refl (λ k. load_each w a level k p t (k == a.hart.0) refl (loaded_new w c a level d p can.labels can.reserve look can.next can.from))
reservations w c (kind.Store a) d p can =
    let t = record (p.harts a.hart.0) { core = d.next; buffer = (p.harts a.hart.0).buffer ++ entry_of a ∷ [] } in
    let made = subst (λ n. Some (unseen a) ≡ offered a.hart.0 (number_of a.hart.0 p) n 0 false) can.next.need_is can.access.made in
    let is : a.op ≡ op.Store = ap (λ (y : Access). y.op) (ap (λ o. unwrap_or o (unseen a)) made) in
    quiet_view w (kind.Store a) p (store_row a d p).part refl (λ k. Less (accessed_less w (kind.Store a) p a refl k t (Old (not_used w (kind.Store a) p a op.Store refl is (λ x. x) a.hart.0) (λ b r. r))))
reservations w c (kind.Commit h n l v) d p can = drained_view w (kind.Commit h n l v) p h.0 l.0 (p.harts h.0).buffer refl
reservations w c (kind.Rmw a l v) d p can =
    let t = record (p.harts a.hart.0) { core = d.next; reserved = rmw_reserved a.op (p.harts a.hart.0).reserved } in
    let old = word_in w a.word.0 (content (p.cells l.0).copy) in
    let made = subst (λ n. Some (unseen a) ≡ offered a.hart.0 (number_of a.hart.0 p) n old true) can.next.need_is can.access.made in
    acted_view w (kind.Rmw a l v) p l.0 (Commit a.hart.0 (written_in w a.word.0 a.mask (unwrap_or a.written 0) (content (p.cells l.0).copy))) (upd p.harts a.hart.0 t)
    (λ k. accessed_less w (kind.Rmw a l v) p a refl k t (rmw_less w a l v p d.next (rmw_is a.hart.0 (number_of a.hart.0 p) old a.word can.op can.operand can.labels a made)))
reservations w c (kind.ScFail a) d p can =
    let t = record (p.harts a.hart.0) { core = d.next; reserved = None } in
    quiet_view w (kind.ScFail a) p (sc_fail_row a d p).part refl (λ k. Less (accessed_less w (kind.ScFail a) p a refl k t (Gone refl)))
reservations w c (kind.LockSend h m) d p can = quiet_view w (kind.LockSend h m) p (lock_send_row w h.0 m p).part refl (λ k. Less (changed_less w (kind.LockSend h m) p refl h.0 k (record (p.harts h.0) { asked = true }) (λ a r. r)))
reservations w c (kind.BusRead h l) d p can = acted_view w (kind.BusRead h l) p l.0 (BusRead h.0) p.harts (stay w (kind.BusRead h l) p (none_used w (kind.BusRead h l) p refl))
reservations w c (kind.BusOwn h l) d p can = acted_view w (kind.BusOwn h l) p l.0 (BusOwn h.0) p.harts (stay w (kind.BusOwn h l) p (none_used w (kind.BusOwn h l) p refl))
reservations w c (kind.Evict h l) d p can = acted_view w (kind.Evict h l) p l.0 (evict_act h.0 (p.cells l.0).copy) p.harts (stay w (kind.Evict h l) p (none_used w (kind.Evict h l) p refl))
reservations w c (kind.Ask slot h l own) d p can = acted_view w (kind.Ask slot h l own) p l.0 (ask_act own slot h.0) p.harts (stay w (kind.Ask slot h l own) p (none_used w (kind.Ask slot h l own) p refl))
reservations w c (kind.Again slot l) d p can = acted_view w (kind.Again slot l) p l.0 Again p.harts (stay w (kind.Again slot l) p (none_used w (kind.Again slot l) p refl))
reservations w c (kind.Install slot h l) d p can =
    let t = kept w l.0 (p.cells l.0).slot (held_by h.0 (p.cells l.0).copy) (p.harts h.0) in
    acted_view w (kind.Install slot h l) p l.0 Install (upd p.harts h.0 t) (λ k. changed_less w (kind.Install slot h l) p refl h.0 k t (kept_fewer w l.0 (p.cells l.0).slot (held_by h.0 (p.cells l.0).copy) (p.harts h.0)))
reservations w c (kind.Grant a) d p can =
    let is : a.op ≡ op.Ask = ap (λ (y : Access). y.op) (ap (λ o. unwrap_or o (unseen a)) can.access.made) in
    granted_view w (kind.Grant a) p (lock_at w a.word.0) (p.locks (lock_at w a.word.0)).queue (not_used w (kind.Grant a) p a op.Ask refl is (λ x. x))
reservations w c (kind.Free f a) d p can =
    let is : a.op ≡ op.Unlock = ap (λ (y : Access). y.op) (ap (λ o. unwrap_or o (unseen a)) can.access.made) in
    quiet_view w (kind.Free f a) p (free_row w (lock_at w a.word.0) a.hart p).part refl (λ k. Less (stay w (kind.Free f a) p (not_used w (kind.Free f a) p a op.Unlock refl is (λ x. x)) k))
reservations w c (kind.Take f m) d p can = taken_if w (kind.Take f m) p c f m d (applies w c m p) refl

-- who does LR or SC is of the cluster
pub used_here : (w : Config) (c : ℕ) (e : Kind) (d : HartEffect) (p : Part) → Guard w c e d p → (b : Access) → accesses_in e ≡ b ∷ [] → IsUse b.op → cluster_of w b.hart.0 ≡ c
unfolding Guard
used_here w c (kind.Load a level) d p can b is uses = let same : a ≡ b = cc in ap (λ (y : Access). cluster_of w y.hart.0) (sym same) ∙ can.next.mine
used_here w c (kind.Store a) d p can b is uses = let same : a ≡ b = cc in ap (λ (y : Access). cluster_of w y.hart.0) (sym same) ∙ can.next.mine
used_here w c (kind.Rmw a l v) d p can b is uses = let same : a ≡ b = cc in ap (λ (y : Access). cluster_of w y.hart.0) (sym same) ∙ can.next.mine
used_here w c (kind.ScFail a) d p can b is uses = let same : a ≡ b = cc in ap (λ (y : Access). cluster_of w y.hart.0) (sym same) ∙ can.next.mine
used_here w c (kind.Grant a) d p can b is uses =
    let same : a ≡ b = cc in
    let ask : a.op ≡ op.Ask = ap (λ (y : Access). y.op) (ap (λ o. unwrap_or o (unseen a)) can.access.made) in
    absurd (subst IsUse ask (subst (λ (y : Access). IsUse y.op) (sym same) uses))
used_here w c (kind.Free f a) d p can b is uses =
    let same : a ≡ b = cc in
    let unlock : a.op ≡ op.Unlock = ap (λ (y : Access). y.op) (ap (λ o. unwrap_or o (unseen a)) can.access.made) in
    absurd (subst IsUse unlock (subst (λ (y : Access). IsUse y.op) (sym same) uses))
used_here w c _ d p can b is uses = absurd (cc)
