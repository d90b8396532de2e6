-- A home that serves a message: its line turns as the row says, and what the home tells by `serves` is whether a case applies.
use Rattle.std.proofs.Common.{◌≡◌, ℕ, ◌<◌, ◌==◌, ◌&&◌, Bool, true, false, cond, not, nat_lt, Option, Some, None, [], slice_index_or, refl, sym, ap, ap₂, ◌∙◌, subst, arith}
use Rattle.std.proofs.lemmas.Bool.Decides.{nat_tests}
use Rattle.dash_base.specs.declared.id.ClusterId.{ClusterId}
use Rattle.dash_base.specs.declared.id.LineId.{LineId}
use Rattle.dash_base.specs.Places.{line_count, home_among}
use Rattle.dash_msg.specs.declared.msg.Msg.{Msg}
use Rattle.dash_msg.specs.declared.msg.Msg.TheVariants.{Read, ReadEx, FwdRead, FwdReadEx, Inval, WriteBack, SharingBack, Transfer, LockAsk, Unlock, Data, DataEx, Ack, TransferAck, Nak, LockGrant, UnlockAck}
use Rattle.directory.specs.Rows.{named, served}
use Rattle.directory.specs.View.{HomeView, is_home, kept_at, line_of, is_home_of, is_served, with_kept, after_line, after_serve, sent_of_line, sent_by}
use Rattle.directory.proofs.LawsOffered.{serving_changes_one_line}
use Rattle.dash_model.specs.Config.{Config, home_of, first_prefetch}
use Rattle.dash_model.specs.Cell.{Copy}
use Rattle.dash_model.specs.Words.{held_by}
use Rattle.dash_model.specs.LineEffect.{LineEffect}
use Rattle.dash_model.specs.LineRows.{take_row}
use Rattle.dash_model.specs.HartRows.{cleared, cleared_where_lost}
use Rattle.dash_model.specs.Part.{Processor, Part}
use Rattle.dash_model.specs.Ranges.{applies, at_home}
use Rattle.unit_rows.specs.Shown.{PartsView, hart_at, home_by, ShowsHart, Shows, AreSized}
use Rattle.unit_rows.specs.Takes.{Takes}
use Rattle.unit_rows.proofs.Same.{is_same}
use Rattle.unit_rows.proofs.Lines.{Turns}
use Rattle.unit_rows.proofs.LineTakes.{its_line, turned, TakesOn, takes_line, takes_no_line}
use Rattle.unit_rows.proofs.HomeRows.{effect_by, agrees}

-- the parts with another home
abbrev pub with_home : PartsView → HomeView → PartsView
with_home v h = record v { home = h }

-- a copy that stays clears no hart
stays : (b : Bool) (s t : Processor) → cond (b && not b) t s ≡ s
stays true s t = refl
stays false s t = refl

pub not_cleared : (w : Config) (l : ℕ) (copy : Copy) (h : ℕ) (s : Processor) → cleared_where_lost w l copy copy h s ≡ s
not_cleared w l copy h s = stays (held_by h copy) s (cleared w l s)

-- a home is that of the cluster's lines
pub home_is : (w : Config) (c : ℕ) (v : PartsView) (q : ℕ) → AreSized w c v → is_home v.home q ≡ nat_lt q (line_count w.top) && (home_among w.top.clusters q == c)
home_is w c v q sized = ap₂ (λ n t. nat_lt q n && t) sized.home_lines (ap₂ (λ n k. home_among n q == k) sized.home_clusters sized.home_cluster)

in_machine : (w : Config) (c : ℕ) (v : PartsView) (from : ClusterId) → AreSized w c v → from.0 < w.top.clusters → nat_lt from.0 v.home.clusters ≡ true
in_machine w c v from sized low = ap (nat_lt from.0) sized.home_clusters ∙ (let t : nat_lt from.0 w.top.clusters ≡ true = grind (arith, nat_tests) in t)

both : (a b : Bool) → b ≡ true → a && (b && b) ≡ a && true
both a true e = refl
both a false e = absurd (cc)

rest : (a b r : Bool) → b ≡ true → a && (b && r) ≡ (a && r) && true
rest true true true e = refl
rest true true false e = refl
rest false true r e = refl
rest a false r e = absurd (cc)

-- whether the home serves a message is whether a case of its row applies
pub served_is : (w : Config) (c : ℕ) (v : PartsView) (from : ClusterId) (m : Msg) (l : LineId) (p : Part) → AreSized w c v → from.0 < w.top.clusters → line_of m ≡ Some l → is_served v.home from m ≡ applies w c m p
served_is w c v from (Read x) l p sized low e = ap (λ a. a && (nat_lt from.0 v.home.clusters && nat_lt from.0 v.home.clusters)) (home_is w c v x.0 sized) ∙ both (at_home w c x) (nat_lt from.0 v.home.clusters) (in_machine w c v from sized low)
served_is w c v from (ReadEx x) l p sized low e = ap (λ a. a && (nat_lt from.0 v.home.clusters && nat_lt from.0 v.home.clusters)) (home_is w c v x.0 sized) ∙ both (at_home w c x) (nat_lt from.0 v.home.clusters) (in_machine w c v from sized low)
served_is w c v from (WriteBack x d) l p sized low e = ap (λ a. a && (nat_lt from.0 v.home.clusters && nat_lt from.0 v.home.clusters)) (home_is w c v x.0 sized) ∙ both (at_home w c x) (nat_lt from.0 v.home.clusters) (in_machine w c v from sized low)
served_is w c v from (SharingBack x d r) l p sized low e = ap₂ (λ a n. a && (nat_lt from.0 v.home.clusters && nat_lt r.0 n)) (home_is w c v x.0 sized) sized.home_clusters ∙ rest (at_home w c x) (nat_lt from.0 v.home.clusters) (nat_lt r.0 w.top.clusters) (in_machine w c v from sized low)
served_is w c v from (Transfer x r) l p sized low e = ap₂ (λ a n. a && (nat_lt from.0 v.home.clusters && nat_lt r.0 n)) (home_is w c v x.0 sized) sized.home_clusters ∙ rest (at_home w c x) (nat_lt from.0 v.home.clusters) (nat_lt r.0 w.top.clusters) (in_machine w c v from sized low)
served_is w c v from (FwdRead x r) l p sized low e = absurd (cc)
served_is w c v from (FwdReadEx x r) l p sized low e = absurd (cc)
served_is w c v from (Inval x r) l p sized low e = absurd (cc)
served_is w c v from (LockAsk g n x y) l p sized low e = absurd (cc)
served_is w c v from (Unlock g n x) l p sized low e = absurd (cc)
served_is w c v from (Data x d) l p sized low e = absurd (cc)
served_is w c v from (DataEx x d n) l p sized low e = absurd (cc)
served_is w c v from (Ack x) l p sized low e = absurd (cc)
served_is w c v from (TransferAck x) l p sized low e = absurd (cc)
served_is w c v from (Nak x) l p sized low e = absurd (cc)
served_is w c v from (LockGrant g) l p sized low e = absurd (cc)
served_is w c v from (UnlockAck g x) l p sized low e = absurd (cc)

-- a message to a home is one of a line
pub of_a_line : (m : Msg) (l : LineId) → line_of m ≡ Some l → its_line m ≡ Some l
of_a_line (Read x) l e = e
of_a_line (ReadEx x) l e = e
of_a_line (WriteBack x d) l e = e
of_a_line (SharingBack x d r) l e = e
of_a_line (Transfer x r) l e = e
of_a_line (FwdRead x r) l e = absurd (cc)
of_a_line (FwdReadEx x r) l e = absurd (cc)
of_a_line (Inval x r) l e = absurd (cc)
of_a_line (LockAsk g n x y) l e = absurd (cc)
of_a_line (Unlock g n x) l e = absurd (cc)
of_a_line (Data x d) l e = absurd (cc)
of_a_line (DataEx x d n) l e = absurd (cc)
of_a_line (Ack x) l e = absurd (cc)
of_a_line (TransferAck x) l e = absurd (cc)
of_a_line (Nak x) l e = absurd (cc)
of_a_line (LockGrant g) l e = absurd (cc)
of_a_line (UnlockAck g x) l e = absurd (cc)

-- what is served has its line at this home, and names a cluster of the machine
record ToServe (w : Config) (c : ℕ) (v : PartsView) (from : ClusterId) (m : Msg) (l : LineId) : Type 0 where
  own : is_home v.home l.0 ≡ true
  of_home : home_of w l.0 ≡ c
  named_low : (named from m).0 < w.top.clusters

first_true : (a b : Bool) → a && b ≡ true → a ≡ true
first_true true b e = refl
first_true false b e = absurd (cc)

second_true : (a b : Bool) → a && b ≡ true → b ≡ true
second_true true b e = e
second_true false b e = absurd (cc)

under : (a b : ℕ) → nat_lt a b ≡ true → a < b
under a b e = grind (arith, nat_tests)

to_serve : (w : Config) (c : ℕ) (v : PartsView) (from : ClusterId) (m : Msg) (l : LineId) → AreSized w c v → line_of m ≡ Some l → is_served v.home from m ≡ true → ToServe w c v from m l
to_serve w c v from m l sized e is =
    let own : is_home v.home l.0 ≡ true = sym (ap (λ o. is_home_of v.home o) e) ∙ first_true _ _ is in
    let at : nat_lt l.0 (line_count w.top) && (home_among w.top.clusters l.0 == c) ≡ true = sym (home_is w c v l.0 sized) ∙ own in
    let there : (home_among w.top.clusters l.0 == c) ≡ true = second_true _ _ at in
    let named_in : nat_lt (named from m).0 w.top.clusters ≡ true = sym (ap (nat_lt (named from m).0) sized.home_clusters) ∙ second_true _ _ (second_true _ _ is) in
    record { own = own; of_home = is_same (home_among w.top.clusters l.0) c there; named_low = under (named from m).0 w.top.clusters named_in }

clusters_after : (h : HomeView) (from : ClusterId) (m : Msg) (o : Option LineId) → ((after_line h from m o).clusters ≡ h.clusters) × ((after_line h from m o).cluster ≡ h.cluster) × ((after_line h from m o).lines ≡ h.lines)
unfolding with_kept
clusters_after h from m None = (refl, refl, refl)
clusters_after h from m (Some l) = (refl, refl, refl)

pub sized_home : (w : Config) (c : ℕ) (v : PartsView) (from : ClusterId) (m : Msg) → AreSized w c v → AreSized w c (with_home v (after_serve v.home from m))
sized_home w c v from m s =
    let same = clusters_after v.home from m (line_of m) in
    record {
      locals = s.locals;
      buffers = s.buffers;
      fronts = s.fronts;
      bus_harts = s.bus_harts;
      l1 = s.l1;
      l2 = s.l2;
      slot_harts = s.slot_harts;
      slot_count = s.slot_count;
      slots_in_range = s.slots_in_range;
      acks = s.acks;
      acks_in_range = s.acks_in_range;
      home_cluster = same.1 ∙ s.home_cluster;
      home_clusters = same.0 ∙ s.home_clusters;
      home_lines = same.2 ∙ s.home_lines;
      lock_cluster = s.lock_cluster;
      lock_clusters = s.lock_clusters;
      lock_words = s.lock_words;
      lock_harts = s.lock_harts;
    }

turns_home : (w : Config) (c : ℕ) (v : PartsView) (from : ClusterId) (m : Msg) (l : LineId) (p : Part) → AreSized w c v → Shows w c v p → line_of m ≡ Some l → Turns w c v (with_home v (after_serve v.home from m)) p l.0 (effect_by w (p.cells l.0) (served v.home.clusters from m (kept_at v.home l.0)))
turns_home w c v from m l p sized s e = record {
  harts = λ k x low. subst (λ y. ShowsHart w v.bus k (slice_index_or v.locals k x) y) (sym (not_cleared w l.0 (p.cells l.0).copy (hart_at w c k) (p.harts (hart_at w c k)))) (s.harts k x low);
  copy = s.copies l.0;
  copies = λ q n. refl;
  slot = s.slots l.0;
  slots = λ q n. refl;
  acks = s.acks l.0;
  entries = λ q n. refl;
  home = λ own. ap (home_by w) (sym (serving_changes_one_line.line v.home from m l e));
  own = λ q. serving_changes_one_line.homes v.home from m l q e;
  homes = λ q n. serving_changes_one_line.others v.home from m l q e n;
  locks = refl;
}

row_is : (w : Config) (c : ℕ) (v : PartsView) (from : ClusterId) (m : Msg) (l : LineId) (p : Part) → AreSized w c v → from.0 < w.top.clusters → Shows w c v p → line_of m ≡ Some l → ToServe w c v from m l → turned w c from m l p ≡ effect_by w (p.cells l.0) (served v.home.clusters from m (kept_at v.home l.0))
row_is w c v from m l p sized low s e t =
    ap₂ (λ k b. take_row (first_prefetch w) k c from.0 m (p.cells l.0) b) t.of_home (s.homes l.0 t.own)
    ∙ agrees w c (first_prefetch w) from m l (p.cells l.0) (kept_at v.home l.0) e low t.named_low
    ∙ ap (λ n. effect_by w (p.cells l.0) (served n from m (kept_at v.home l.0))) (sym sized.home_clusters)

takes_on : (w : Config) (c : ℕ) (v : PartsView) (from : ClusterId) (m : Msg) (l : LineId) (p : Part) → AreSized w c v → from.0 < w.top.clusters → line_of m ≡ Some l → is_served v.home from m ≡ true → Shows w c v p → TakesOn w c from m l v (with_home v (after_serve v.home from m)) (sent_by v.home from m) p
takes_on w c v from m l p sized low e is s =
    let row = row_is w c v from m l p sized low s e (to_serve w c v from m l sized e is) in
    record {
      applied = sym (served_is w c v from m l p sized low e) ∙ is;
      turns = subst (λ d. Turns w c v (with_home v (after_serve v.home from m)) p l.0 d) (sym row) (turns_home w c v from m l p sized s e);
      sent_is = ap (λ (d : LineEffect). d.sent) row ∙ sym (ap (sent_of_line v.home from m) e);
    }

pub takes_served : (w : Config) (c : ℕ) (v : PartsView) (from : ClusterId) (m : Msg) (l : LineId) → AreSized w c v → from.0 < w.top.clusters → line_of m ≡ Some l → is_served v.home from m ≡ true → Takes w c from m v (with_home v (after_serve v.home from m)) (sent_by v.home from m)
takes_served w c v from m l sized low e is = takes_line w c from m l v (with_home v (after_serve v.home from m)) (sent_by v.home from m) (of_a_line m l e) (λ p s. takes_on w c v from m l p sized low e is s)

pub takes_unserved : (w : Config) (c : ℕ) (v : PartsView) (from : ClusterId) (m : Msg) (l : LineId) → AreSized w c v → from.0 < w.top.clusters → line_of m ≡ Some l → is_served v.home from m ≡ false → Takes w c from m v v []
takes_unserved w c v from m l sized low e is = takes_no_line w c from m l v (of_a_line m l e) (λ p s. sym (served_is w c v from m l p sized low e) ∙ is)
