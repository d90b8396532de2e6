-- Requests of other clusters for lines that this one has: an owner gives the line, or the request is refused; and an invalidation clears it.
use Rattle.std.proofs.Common.{◌≡◌, ℕ, ◌&&◌, Bool, true, false, Option, None, Some, List, [], ◌∷◌, is_some, refl, sym, ap, ap₂, ◌∙◌, subst}
use Rattle.dash_base.specs.declared.id.ClusterId.{ClusterId}
use Rattle.dash_base.specs.declared.id.LineId.{LineId}
use Rattle.dash_base.specs.declared.line.Line.{Line}
use Rattle.dash_base.specs.Places.{line_count}
use Rattle.dash_base.specs.Places as places
use Rattle.dash_msg.specs.declared.msg.Msg.TheVariants.{FwdRead, FwdReadEx, Inval, SharingBack, Transfer, Data, DataEx, Ack, Nak}
use Rattle.snoop_bus.specs.Holding.{Holding, has_hart, holders_in, owner_in, copy_in, disowned}
use Rattle.snoop_bus.specs.View.{BusView, holding_at, holders_at, nobody, everybody, after_clear, after_downgrade, IsOneMap}
use Rattle.snoop_bus.proofs.LawsOffered.{has_hart-zero}
use Rattle.ack_counter.specs.View.{Counted, entry_at}
use Rattle.remote_cache.specs.Rows.{on_inval}
use Rattle.remote_cache.specs.View.{SlotsView, is_prefetch, IsOnePerLine}
use Rattle.remote_cache.specs.View as slots
use Rattle.remote_cache.specs.Steps.{after_inval}
use Rattle.dash_model.specs.Config.{Config, cluster_id, home_of}
use Rattle.dash_model.specs.Net.{to}
use Rattle.dash_model.specs.Cell.{Copy, NoCopy, Held, NoAcks, Cell, Home}
use Rattle.dash_model.specs.Part.{Part}
use Rattle.dash_model.specs.LineEffect.{LineEffect}
use Rattle.dash_model.specs.Ranges.{has_line, has_cluster}
use Rattle.dash_model.specs.Requests.{give_read, give_own, poison}
use Rattle.unit_rows.specs.declared.parts.Local.{Local}
use Rattle.unit_rows.specs.Shown.{PartsView, harts_by, owner_by, copy_by, counted_by, acks_by, Shows, AreSized}
use Rattle.unit_rows.specs.Sweeps.{AreSwept}
use Rattle.unit_rows.specs.Takes.{Takes}
use Rattle.unit_rows.specs.Giving.{given_by, given}
use Rattle.unit_rows.proofs.Lines.{Turns}
use Rattle.unit_rows.proofs.Swept.{Leaves, harts_swept, harts_stay}
use Rattle.unit_rows.proofs.BusTurns.{with_line, line_turns, bus_turns}
use Rattle.unit_rows.proofs.Sized.{sized_line, sized_bus, swept_sizes, same_sizes}
use Rattle.unit_rows.proofs.LineTakes.{turned, takes_line, takes_no_line}
use Rattle.unit_rows.proofs.SlotMet.{IsMet, is_met}
use Rattle.unit_rows.proofs.SlotRows.{inval_same, poison_is}
use Rattle.unit_rows.proofs.MetTurns.{slot_turns}
use Rattle.unit_rows.proofs.AckSteps.{acks_stay}

-- an owner that gives a copy, or the line; or a refusal
abbrev read_effect : LineId → ℕ → ℕ → Copy → Line → Cell → Home → LineEffect
read_effect l h r copy d a b = record { cell = record a { copy = copy }; home = b; sent = to r (Data l d) ∷ to h (SharingBack l d (cluster_id r)) ∷ [] }

abbrev own_effect : LineId → ℕ → ℕ → Line → Cell → Home → LineEffect
own_effect l h r d a b = record { cell = record a { copy = NoCopy }; home = b; sent = to r (DataEx l d 1) ∷ to h (Transfer l (cluster_id r)) ∷ [] }

abbrev nak_effect : LineId → ℕ → Cell → Home → LineEffect
nak_effect l r a b = record { cell = a; home = b; sent = to r (Nak l) ∷ [] }

same_line : (d e : Line) → Some d ≡ Some e → d ≡ e
same_line d e s = cc

read_given : (w : Config) (c : ℕ) (l : LineId) (h r : ℕ) (o : Option Holding) (e : Option Counted) (d : Line) (a : Cell) (b : Home) → given_by (is_some e) (owner_in o) (copy_in o) ≡ Some d → give_read l h r (copy_by w c o) (acks_by w c e) a b ≡ read_effect l h r (copy_by w c (disowned o)) d a b
read_given w c l h r None None d a b is = absurd (cc)
read_given w c l h r None (Some x) d a b is = absurd (cc)
read_given w c l h r (Some y) (Some x) d a b is = absurd (cc)
read_given w c l h r (Some y) None d a b is = by_owner y.owner is
  where
    by_owner : (k : Option ℕ) → given_by false k (Some y.copy) ≡ Some d → give_read l h r (copy_by w c (Some (record y { owner = k }))) NoAcks a b ≡ read_effect l h r (copy_by w c (disowned (Some y))) d a b
    by_owner None i = absurd (cc)
    by_owner (Some k) i = ap (λ z. read_effect l h r (copy_by w c (disowned (Some y))) z a b) (same_line y.copy d i)

own_given : (w : Config) (c : ℕ) (l : LineId) (h r : ℕ) (o : Option Holding) (e : Option Counted) (d : Line) (a : Cell) (b : Home) → given_by (is_some e) (owner_in o) (copy_in o) ≡ Some d → give_own l h r (copy_by w c o) (acks_by w c e) a b ≡ own_effect l h r d a b
own_given w c l h r None None d a b is = absurd (cc)
own_given w c l h r None (Some x) d a b is = absurd (cc)
own_given w c l h r (Some y) (Some x) d a b is = absurd (cc)
own_given w c l h r (Some y) None d a b is = by_owner y.owner is
  where
    by_owner : (k : Option ℕ) → given_by false k (Some y.copy) ≡ Some d → give_own l h r (copy_by w c (Some (record y { owner = k }))) NoAcks a b ≡ own_effect l h r d a b
    by_owner None i = absurd (cc)
    by_owner (Some k) i = ap (λ z. own_effect l h r z a b) (same_line y.copy d i)

module _ (w : Config) (c : ℕ) (l : LineId) (h r : ℕ) (a : Cell) (b : Home) where
  read_counted : (hs : List ℕ) (k : Option ℕ) (d : Line) (x : Counted) (n : Option ℕ) → give_read l h r (Held hs k d) (counted_by w c x n) a b ≡ nak_effect l r a b
  read_counted hs None d x n = refl
  read_counted hs (Some k) d x None = refl
  read_counted hs (Some k) d x (Some n) = refl

  own_counted : (hs : List ℕ) (k : Option ℕ) (d : Line) (x : Counted) (n : Option ℕ) → give_own l h r (Held hs k d) (counted_by w c x n) a b ≡ nak_effect l r a b
  own_counted hs None d x n = refl
  own_counted hs (Some k) d x None = refl
  own_counted hs (Some k) d x (Some n) = refl

  read_refused : (o : Option Holding) (e : Option Counted) (z : Option Line) → z ≡ given_by (is_some e) (owner_in o) (copy_in o) → is_some z ≡ false → give_read l h r (copy_by w c o) (acks_by w c e) a b ≡ nak_effect l r a b
  read_refused None e z is none = refl
  read_refused (Some y) (Some x) z is none = read_counted (harts_by w c (has_hart y.holders)) (owner_by w c y.owner) y.copy x x.expected
  read_refused (Some y) None z is none = by_owner y.owner (sym (ap is_some is) ∙ none)
    where
      by_owner : (k : Option ℕ) → is_some (given_by false k (Some y.copy)) ≡ false → give_read l h r (copy_by w c (Some (record y { owner = k }))) NoAcks a b ≡ nak_effect l r a b
      by_owner None i = refl
      by_owner (Some k) i = absurd (cc)

  own_refused : (o : Option Holding) (e : Option Counted) (z : Option Line) → z ≡ given_by (is_some e) (owner_in o) (copy_in o) → is_some z ≡ false → give_own l h r (copy_by w c o) (acks_by w c e) a b ≡ nak_effect l r a b
  own_refused None e z is none = refl
  own_refused (Some y) (Some x) z is none = own_counted (harts_by w c (has_hart y.holders)) (owner_by w c y.owner) y.copy x x.expected
  own_refused (Some y) None z is none = by_owner y.owner (sym (ap is_some is) ∙ none)
    where
      by_owner : (k : Option ℕ) → is_some (given_by false k (Some y.copy)) ≡ false → give_own l h r (copy_by w c (Some (record y { owner = k }))) NoAcks a b ≡ nak_effect l r a b
      by_owner None i = refl
      by_owner (Some k) i = absurd (cc)

-- who loses the line
cleared_leaves : (w : Config) (b : BusView) (l : ℕ) → Leaves w b l None everybody
cleared_leaves w b l = record { lost = λ k low before after. refl; stays = λ k low after. absurd (let t : false ≡ true = sym (has_hart-zero k) ∙ after in cc) }

disowned_holders : (o : Option Holding) → holders_in (disowned o) ≡ holders_in o
disowned_holders None = refl
disowned_holders (Some h) = refl

disowned_leaves : (w : Config) (b : BusView) (l : ℕ) → Leaves w b l (disowned (holding_at b l)) nobody
disowned_leaves w b l = record {
  lost = λ k low before after. absurd (let t : true ≡ false = sym before ∙ ap (λ n. has_hart n k) (sym (disowned_holders (holding_at b l))) ∙ after in cc);
  stays = λ k low after. refl;
}

-- numbers out of range
out_of : (w : Config) (l : LineId) (r : ClusterId) → has_line w l ≡ false → (has_line w l && has_cluster w r) && true ≡ false
out_of w l r e = ap (λ x. (x && has_cluster w r) && true) e

no_cluster : (x y : Bool) → y ≡ false → (x && y) && true ≡ false
no_cluster true true e = absurd (cc)
no_cluster true false e = refl
no_cluster false y e = refl

both_in : (x y : Bool) → x ≡ true → y ≡ true → (x && y) && true ≡ true
both_in true true e f = refl
both_in true false e f = absurd (cc)
both_in false y e f = absurd (cc)

module _ (w : Config) (c : ℕ) (v : PartsView) (from : ClusterId) (l : LineId) (r : ClusterId) where
  pub fwd_read_out : has_line w l && has_cluster w r ≡ false → Takes w c from (FwdRead l r) v v []
  fwd_read_out e = takes_no_line w c from (FwdRead l r) l v refl (λ p s. ap (λ b. b && true) e)

  pub fwd_own_out : has_line w l && has_cluster w r ≡ false → Takes w c from (FwdReadEx l r) v v []
  fwd_own_out e = takes_no_line w c from (FwdReadEx l r) l v refl (λ p s. ap (λ b. b && true) e)

  pub inval_out : has_line w l && has_cluster w r ≡ false → Takes w c from (Inval l r) v v []
  inval_out e = takes_no_line w c from (Inval l r) l v refl (λ p s. ap (λ b. b && true) e)

-- the sharing back, and the transfer, go to the line's home
abbrev pub home_id : Config → LineId → ClusterId
home_id w l = cluster_id (home_of w l.0)

module _ (w : Config) (c : ℕ) (v : PartsView) (l : LineId) (r : ClusterId) (z : AreSized w c v) (inside : has_line w l && has_cluster w r ≡ true) where
  -- a request that is refused
  same_turns : (p : Part) (d : LineEffect) → Shows w c v p → d ≡ nak_effect l r.0 (p.cells l.0) (p.homes l.0) → Turns w c v v p l.0 d
  same_turns p d s is = subst (λ x. Turns w c v v p l.0 x) (sym is) (slot_turns w c v p l.0 (nak_effect l r.0 (p.cells l.0) (p.homes l.0)) v.slots v.acks s refl (s.slots l.0) (λ q apart. refl) (acks_stay w c v.acks l.0 (p.cells l.0).acks z.acks_in_range (s.acks l.0)) refl)

  read_row_is : (p : Part) → Shows w c v p → give_read l (home_of w l.0) r.0 (p.cells l.0).copy (p.cells l.0).acks (p.cells l.0) (p.homes l.0) ≡ give_read l (home_of w l.0) r.0 (copy_by w c (holding_at v.bus l.0)) (acks_by w c (entry_at v.acks l.0)) (p.cells l.0) (p.homes l.0)
  read_row_is p s = ap₂ (λ x y. give_read l (home_of w l.0) r.0 x y (p.cells l.0) (p.homes l.0)) (s.copies l.0) (s.acks l.0)

  own_row_is : (p : Part) → Shows w c v p → give_own l (home_of w l.0) r.0 (p.cells l.0).copy (p.cells l.0).acks (p.cells l.0) (p.homes l.0) ≡ give_own l (home_of w l.0) r.0 (copy_by w c (holding_at v.bus l.0)) (acks_by w c (entry_at v.acks l.0)) (p.cells l.0) (p.homes l.0)
  own_row_is p s = ap₂ (λ x y. give_own l (home_of w l.0) r.0 x y (p.cells l.0) (p.homes l.0)) (s.copies l.0) (s.acks l.0)

  pub takes_read_refused : (from : ClusterId) (g : Option Line) → g ≡ given v.bus v.acks l.0 → is_some g ≡ false → Takes w c from (FwdRead l r) v v (record { to = r; msg = Nak l } ∷ [])
  takes_read_refused from g is none = takes_line w c from (FwdRead l r) l v v _ refl (λ p s.
      let row = read_row_is p s ∙ read_refused w c l (home_of w l.0) r.0 (p.cells l.0) (p.homes l.0) (holding_at v.bus l.0) (entry_at v.acks l.0) g is none in
      record { applied = ap (λ b. b && true) inside; turns = same_turns p _ s row; sent_is = ap (λ (d : LineEffect). d.sent) row })

  pub takes_own_refused : (from : ClusterId) (g : Option Line) → g ≡ given v.bus v.acks l.0 → is_some g ≡ false → Takes w c from (FwdReadEx l r) v v (record { to = r; msg = Nak l } ∷ [])
  takes_own_refused from g is none = takes_line w c from (FwdReadEx l r) l v v _ refl (λ p s.
      let row = own_row_is p s ∙ own_refused w c l (home_of w l.0) r.0 (p.cells l.0) (p.homes l.0) (holding_at v.bus l.0) (entry_at v.acks l.0) g is none in
      record { applied = ap (λ b. b && true) inside; turns = same_turns p _ s row; sent_is = ap (λ (d : LineEffect). d.sent) row })

module _ (w : Config) (c : ℕ) (v : PartsView) (l : LineId) (r : ClusterId) (z : AreSized w c v) (inside : has_line w l && has_cluster w r ≡ true) (map : IsOneMap v.bus) where
  -- an owner that gives a copy
  read_turns : (p : Part) (d : Line) → Shows w c v p → Turns w c v (with_line v v.locals (after_downgrade v.bus l.0) v.slots v.acks) p l.0 (read_effect l (home_of w l.0) r.0 (copy_by w c (disowned (holding_at v.bus l.0))) d (p.cells l.0) (p.homes l.0))
  read_turns p d s =
      let o = disowned (holding_at v.bus l.0) in
      bus_turns w c v p l.0 (read_effect l (home_of w l.0) r.0 (copy_by w c (disowned (holding_at v.bus l.0))) d (p.cells l.0) (p.homes l.0)) nobody o v.locals s
      (harts_stay w c v p l.0 nobody o (copy_by w c o) z.locals z.bus_harts map s (disowned_leaves w v.bus l.0) refl (λ k low before. ap (λ n. has_hart n k) (disowned_holders (holding_at v.bus l.0)) ∙ before))
      refl refl refl refl

  pub takes_read_given : (from : ClusterId) (d : Line) → given v.bus v.acks l.0 ≡ Some d → Takes w c from (FwdRead l r) v (with_line v v.locals (after_downgrade v.bus l.0) v.slots v.acks) (record { to = r; msg = Data l d } ∷ record { to = home_id w l; msg = SharingBack l d r } ∷ [])
  takes_read_given from d is = takes_line w c from (FwdRead l r) l v _ _ refl (λ p s.
      let row = read_row_is w c v l r z inside p s ∙ read_given w c l (home_of w l.0) r.0 (holding_at v.bus l.0) (entry_at v.acks l.0) d (p.cells l.0) (p.homes l.0) is in
      record {
        applied = ap (λ b. b && true) inside;
        turns = subst (λ x. Turns w c v (with_line v v.locals (after_downgrade v.bus l.0) v.slots v.acks) p l.0 x) (sym row) (read_turns p d s);
        sent_is = ap (λ (x : LineEffect). x.sent) row;
      })

  pub sized_downgraded : AreSized w c (with_line v v.locals (after_downgrade v.bus l.0) v.slots v.acks)
  sized_downgraded = sized_bus w c v v.locals nobody l.0 (disowned (holding_at v.bus l.0)) z (same_sizes w v.locals)

  -- an owner that gives the line
  own_turns : (p : Part) (d : Line) (locals : List Local) → AreSwept w l.0 (holders_at v.bus l.0) 0 v.locals locals → Shows w c v p → Turns w c v (with_line v locals (after_clear v.bus l.0) v.slots v.acks) p l.0 (own_effect l (home_of w l.0) r.0 d (p.cells l.0) (p.homes l.0))
  own_turns p d locals are s =
      bus_turns w c v p l.0 (own_effect l (home_of w l.0) r.0 d (p.cells l.0) (p.homes l.0)) everybody None locals s
      (harts_swept w c v p l.0 everybody None NoCopy locals z.locals z.bus_harts map s (cleared_leaves w v.bus l.0) refl are)
      refl refl refl refl

  pub takes_own_given : (from : ClusterId) (d : Line) (locals : List Local) → AreSwept w l.0 (holders_at v.bus l.0) 0 v.locals locals → given v.bus v.acks l.0 ≡ Some d → Takes w c from (FwdReadEx l r) v (with_line v locals (after_clear v.bus l.0) v.slots v.acks) (record { to = r; msg = DataEx l d 1 } ∷ record { to = home_id w l; msg = Transfer l r } ∷ [])
  takes_own_given from d locals are is = takes_line w c from (FwdReadEx l r) l v _ _ refl (λ p s.
      let row = own_row_is w c v l r z inside p s ∙ own_given w c l (home_of w l.0) r.0 (holding_at v.bus l.0) (entry_at v.acks l.0) d (p.cells l.0) (p.homes l.0) is in
      record {
        applied = ap (λ b. b && true) inside;
        turns = subst (λ x. Turns w c v (with_line v locals (after_clear v.bus l.0) v.slots v.acks) p l.0 x) (sym row) (own_turns p d locals are s);
        sent_is = ap (λ (x : LineEffect). x.sent) row;
      })

  pub sized_cleared : (locals : List Local) → AreSwept w l.0 (holders_at v.bus l.0) 0 v.locals locals → AreSized w c (with_line v locals (after_clear v.bus l.0) v.slots v.acks)
  sized_cleared locals are = sized_bus w c v locals everybody l.0 None z (swept_sizes w l.0 (holders_at v.bus l.0) 0 v.locals locals are)

  -- an invalidation
  pub inval_met : IsOnePerLine v.slots.slots → IsMet w c v.slots (after_inval v.slots l.0) l.0 (poison (slots.first_prefetch v.slots))
  inval_met one = is_met w c v.slots (λ prefetch s. on_inval prefetch s s.own s.phase) l.0 (poison (slots.first_prefetch v.slots)) one z.slots_in_range refl (λ n s. inval_same (is_prefetch v.slots n) s s.own s.phase) (λ n s. poison_is w c (slots.first_prefetch v.slots) n s.hart s.line s.own s.phase)

  pub takes_inval : (from : ClusterId) (locals : List Local) → IsOnePerLine v.slots.slots → AreSwept w l.0 (holders_at v.bus l.0) 0 v.locals locals → Takes w c from (Inval l r) v (with_line v locals (after_clear v.bus l.0) (after_inval v.slots l.0) v.acks) (record { to = r; msg = Ack l } ∷ [])
  takes_inval from locals one are = takes_line w c from (Inval l r) l v _ _ refl (λ p s.
      record {
        applied = ap (λ b. b && true) inside;
        turns = line_turns w c v p l.0 (turned w c from (Inval l r) l p) everybody None locals (after_inval v.slots l.0) v.acks s
            (harts_swept w c v p l.0 everybody None NoCopy locals z.locals z.bus_harts map s (cleared_leaves w v.bus l.0) refl are)
            refl (ap₂ poison (ap places.first_prefetch (sym z.slot_harts)) (s.slots l.0) ∙ (inval_met one).here) (inval_met one).there (s.acks l.0) (λ q apart. refl) refl;
        sent_is = refl;
      })

  pub sized_inval : (locals : List Local) → IsOnePerLine v.slots.slots → AreSwept w l.0 (holders_at v.bus l.0) 0 v.locals locals → AreSized w c (with_line v locals (after_clear v.bus l.0) (after_inval v.slots l.0) v.acks)
  sized_inval locals one are =
      let fit = (inval_met one).fit in
      sized_line w c v locals everybody l.0 None (after_inval v.slots l.0) v.acks z (swept_sizes w l.0 (holders_at v.bus l.0) 0 v.locals locals are) fit.harts fit.counts fit.in_range refl z.acks_in_range
