-- A message of a line that is taken: a case of its row applies, and along the line it is that row.
use Rattle.std.proofs.Common.{◌≡◌, ◌≢◌, ℕ, ◌≤◌, ◌<◌, ◌==◌, ◌&&◌, Bool, true, false, cond, nat_lt, Some, refl, sym, ap, ◌∙◌, subst, arith}
use Rattle.std.proofs.lemmas.Bool.Decides.{nat_tests}
use Rattle.dash_base.specs.declared.id.LineId.{LineId}
use Rattle.dash_base.specs.declared.line.Line.{Line}
use Rattle.dash_msg.specs.Classes.{class_of}
use Rattle.dash_msg.specs.declared.classes.Class.TheVariants.{Request, Reply}
use Rattle.dash_msg.specs.declared.msg.Msg.{Msg}
use Rattle.dash_msg.specs.declared.msg.Msg.TheVariants.{Read, ReadEx, FwdRead, FwdReadEx, Inval, WriteBack, SharingBack, Transfer, LockAsk, Unlock, Data, DataEx, Ack, TransferAck, Nak, LockGrant, UnlockAck}
use Rattle.dash_model.specs.Maps.{weigh}
use Rattle.dash_model.specs.Config.{Config, lines, home_of, first_prefetch}
use Rattle.dash_model.specs.Net.{parcel, head}
use Rattle.dash_model.specs.Cell.{Asked, Poisoned, Came, Refused, Slot, NoSlot, Reads, Owns, Acks, NoAcks, Counting, Expects}
use Rattle.dash_model.specs.Part.{Part}
use Rattle.dash_model.specs.LineRows.{take_row}
use Rattle.dash_model.specs.HartRows.{PartEffect, quiet, HartEffect}
use Rattle.dash_model.specs.LockRows.{answered}
use Rattle.dash_model.specs.Ranges.{at_home, has_line, has_cluster, got_fits, in_range, applies}
use Rattle.dash_model.specs.Row.{line_msg_row, msg_row, msg_row_if}
use Rattle.dash_model.specs.OnLine.{counts_to, acks_to, one, is_of}
use Rattle.dash_model.proofs.LineState.{State}
use Rattle.dash_model.proofs.Weigh.{cut}
use Rattle.dash_model.proofs.Facts.{Counted, counting, waits_own}
use Rattle.dash_model.proofs.Steps.{Invariant}
use Rattle.dash_model.proofs.LineSteps.{routed, at_home_of}
use Rattle.dash_model.proofs.Bounds.{Bounded, AcksBounded, named-head, announced}
use Rattle.dash_model.proofs.Along.{at, AllAre, all_other}
use Rattle.dash_model.proofs.RowsAlong.{take_sends}

test_false : (x c : ℕ) → x ≢ c → (x == c) ≡ false
test_false x c n = grind (arith, nat_tests)

test_true : (c : ℕ) → (c == c) ≡ true
test_true c = grind (arith, nat_tests)

is_line : (k l : ℕ) → (k == l) ≡ true → l ≡ k
is_line k l e = grind (arith, nat_tests)

no_line : (k l : ℕ) → (k == l) ≡ false → l ≢ k
no_line k l e = grind (arith, nat_tests)

-- another line is left
pub record LeavesLine (l : ℕ) (p : Part) (d : PartEffect) : Type 0 where
  pub cells : d.part.cells l ≡ p.cells l
  pub homes : d.part.homes l ≡ p.homes l
  pub sent : AllAre l false d.sent

line_off : (w : Config) (c f : ℕ) (k : LineId) (m : Msg) (p : Part) (l : ℕ) → is_of k.0 m ≡ true → (k.0 == l) ≡ false → LeavesLine l p (line_msg_row w c f k m p)
line_off w c f k m p l o e =
    let n = no_line k.0 l e in
    let t = test_false l k.0 n in
    record {
      cells = ap (λ i. cond i (take_row (first_prefetch w) (home_of w k.0) c f m (p.cells k.0) (p.homes k.0)).cell (p.cells l)) t;
      homes = ap (λ i. cond i (take_row (first_prefetch w) (home_of w k.0) c f m (p.cells k.0) (p.homes k.0)).home (p.homes l)) t;
      sent = all_other k.0 l (take_row (first_prefetch w) (home_of w k.0) c f m (p.cells k.0) (p.homes k.0)).sent (take_sends k.0 (first_prefetch w) (home_of w k.0) c f m (p.cells k.0) (p.homes k.0) o) n;
    }

answered_off : (h l : ℕ) (b : Bool) (d : HartEffect) (p : Part) → LeavesLine l p (quiet (answered h b d p))
answered_off h l true d p = record { cells = refl; homes = refl; sent = tt }
answered_off h l false d p = record { cells = refl; homes = refl; sent = tt }

take_off : (w : Config) (c f : ℕ) (m : Msg) (d : HartEffect) (p : Part) (l : ℕ) → is_of l m ≡ false → LeavesLine l p (msg_row w c f m d p)
take_off w c f (Read k) d p l e = line_off w c f k (Read k) p l (test_true k.0) e
take_off w c f (ReadEx k) d p l e = line_off w c f k (ReadEx k) p l (test_true k.0) e
take_off w c f (FwdRead k r) d p l e = line_off w c f k (FwdRead k r) p l (test_true k.0) e
take_off w c f (FwdReadEx k r) d p l e = line_off w c f k (FwdReadEx k r) p l (test_true k.0) e
take_off w c f (Inval k r) d p l e = line_off w c f k (Inval k r) p l (test_true k.0) e
take_off w c f (WriteBack k x) d p l e = line_off w c f k (WriteBack k x) p l (test_true k.0) e
take_off w c f (SharingBack k x r) d p l e = line_off w c f k (SharingBack k x r) p l (test_true k.0) e
take_off w c f (Transfer k r) d p l e = line_off w c f k (Transfer k r) p l (test_true k.0) e
take_off w c f (LockAsk h n word v) d p l e = record { cells = refl; homes = refl; sent = tt }
take_off w c f (Unlock h n word) d p l e = record { cells = refl; homes = refl; sent = tt }
take_off w c f (Data k x) d p l e = line_off w c f k (Data k x) p l (test_true k.0) e
take_off w c f (DataEx k x n) d p l e = line_off w c f k (DataEx k x n) p l (test_true k.0) e
take_off w c f (Ack k) d p l e = line_off w c f k (Ack k) p l (test_true k.0) e
take_off w c f (TransferAck k) d p l e = line_off w c f k (TransferAck k) p l (test_true k.0) e
take_off w c f (Nak k) d p l e = line_off w c f k (Nak k) p l (test_true k.0) e
take_off w c f (LockGrant h) d p l e = answered_off h.0 l (p.harts h.0).asked d p
take_off w c f (UnlockAck h old) d p l e = answered_off h.0 l (p.harts h.0).asked d p

pub take_off_if : (w : Config) (c f : ℕ) (m : Msg) (d : HartEffect) (p : Part) (l : ℕ) (b : Bool) → is_of l m ≡ false → LeavesLine l p (msg_row_if b w c f m d p)
take_off_if w c f m d p l true e = take_off w c f m d p l e
take_off_if w c f m d p l false e = record { cells = refl; homes = refl; sent = tt }

-- the line's row
pub record IsLineRow (w : Config) (c f : ℕ) (m : Msg) (l : ℕ) (p : Part) (d : PartEffect) : Type 0 where
  pub cells : d.part.cells l ≡ (take_row (first_prefetch w) (home_of w l) c f m (p.cells l) (p.homes l)).cell
  pub homes : d.part.homes l ≡ (take_row (first_prefetch w) (home_of w l) c f m (p.cells l) (p.homes l)).home
  pub sent : d.sent ≡ (take_row (first_prefetch w) (home_of w l) c f m (p.cells l) (p.homes l)).sent

line_on : (w : Config) (c f : ℕ) (k : LineId) (m : Msg) (p : Part) (l : ℕ) → (k.0 == l) ≡ true → IsLineRow w c f m l p (line_msg_row w c f k m p)
line_on w c f k m p l e = subst (λ y. IsLineRow w c f m y p (line_msg_row w c f k m p)) (sym (is_line k.0 l e)) (record {
  cells = ap (λ i. cond i (take_row (first_prefetch w) (home_of w k.0) c f m (p.cells k.0) (p.homes k.0)).cell (p.cells k.0)) (test_true k.0);
  homes = ap (λ i. cond i (take_row (first_prefetch w) (home_of w k.0) c f m (p.cells k.0) (p.homes k.0)).home (p.homes k.0)) (test_true k.0);
  sent = refl;
})

take_on : (w : Config) (c f : ℕ) (m : Msg) (d : HartEffect) (p : Part) (l : ℕ) → is_of l m ≡ true → IsLineRow w c f m l p (msg_row w c f m d p)
take_on w c f (Read k) d p l e = line_on w c f k (Read k) p l e
take_on w c f (ReadEx k) d p l e = line_on w c f k (ReadEx k) p l e
take_on w c f (FwdRead k r) d p l e = line_on w c f k (FwdRead k r) p l e
take_on w c f (FwdReadEx k r) d p l e = line_on w c f k (FwdReadEx k r) p l e
take_on w c f (Inval k r) d p l e = line_on w c f k (Inval k r) p l e
take_on w c f (WriteBack k x) d p l e = line_on w c f k (WriteBack k x) p l e
take_on w c f (SharingBack k x r) d p l e = line_on w c f k (SharingBack k x r) p l e
take_on w c f (Transfer k r) d p l e = line_on w c f k (Transfer k r) p l e
take_on w c f (LockAsk h n word v) d p l e = absurd (cc)
take_on w c f (Unlock h n word) d p l e = absurd (cc)
take_on w c f (Data k x) d p l e = line_on w c f k (Data k x) p l e
take_on w c f (DataEx k x n) d p l e = line_on w c f k (DataEx k x n) p l e
take_on w c f (Ack k) d p l e = line_on w c f k (Ack k) p l e
take_on w c f (TransferAck k) d p l e = line_on w c f k (TransferAck k) p l e
take_on w c f (Nak k) d p l e = line_on w c f k (Nak k) p l e
take_on w c f (LockGrant h) d p l e = absurd (cc)
take_on w c f (UnlockAck h old) d p l e = absurd (cc)

pub take_on_if : (w : Config) (c f : ℕ) (m : Msg) (d : HartEffect) (p : Part) (l : ℕ) (b : Bool) → b ≡ true → is_of l m ≡ true → IsLineRow w c f m l p (msg_row_if b w c f m d p)
take_on_if w c f m d p l true t e = take_on w c f m d p l e
take_on_if w c f m d p l false t e = absurd (cc)

-- one acknowledgement more fits
got_small : (n a d h : ℕ) (s : Slot) (k : Acks) → Counted s k a d h → 1 ≤ a → d ≤ n → AcksBounded n k → n ≤ 16 → got_fits k ≡ true
got_small n a d h s NoAcks e i j b l = refl
got_small n a d h (Owns t u Asked) (Counting g o) e i j b l = grind (arith, nat_tests)
got_small n a d h (Owns t u Refused) (Counting g o) e i j b l = absurd (let z = e.0 in omega arith)
got_small n a d h (Owns t u Poisoned) (Counting g o) e i j b l = absurd e
got_small n a d h (Owns t u (Came x)) (Counting g o) e i j b l = absurd e
got_small n a d h NoSlot (Counting g o) e i j b l = absurd e
got_small n a d h (Reads t u x) (Counting g o) e i j b l = absurd e
got_small n a d h (Owns t u Asked) (Expects m g o) e i j b l = absurd e
got_small n a d h (Owns t u Refused) (Expects m g o) e i j b l = absurd e
got_small n a d h (Owns t u Poisoned) (Expects m g o) e i j b l = absurd e
got_small n a d h (Owns t u (Came x)) (Expects m g o) e i j b l = let y = e.1 in grind (arith, nat_tests)
got_small n a d h NoSlot (Expects m g o) e i j b l = let y = e.1 in grind (arith, nat_tests)
got_small n a d h (Reads t u x) (Expects m g o) e i j b l = let y = e.1 in grind (arith, nat_tests)

own_one : (s : Slot) → waits_own s ≤ 1
own_one s = grind arith

fits : (w : Config) (l : ℕ) (v : Line) (c : ℕ) (s : State) → Invariant (home_of w l) v s → Bounded w.top.clusters s → 1 ≤ weigh (acks_to c) s.net → got_fits (s.cells c).acks ≡ true
fits w l v c s i b some =
    let k = (i.known c).facts in
    let own = k.requests.own in
    let most = own_one (s.cells c).slot in
    let few = announced w.top.clusters c s.net b.net (omega arith) in
    got_small w.top.clusters (counting c s) (weigh (counts_to c) s.net) _ (s.cells c).slot (s.cells c).acks k.counts (omega arith) few (b.acks c) w.top.clusters_in_range.high

below : (a n : ℕ) → a < n → nat_lt a n ≡ true
below a n l = grind (arith, nat_tests)

both : (a b : Bool) → a ≡ true → b ≡ true → a && b ≡ true
both true true e f = refl
both true false e f = f
both false b e f = absurd (cc)

pub line_in : (w : Config) (k : LineId) (l : ℕ) → (k.0 == l) ≡ true → l < lines w → has_line w k ≡ true
line_in w k l e b = below k.0 (lines w) (subst (λ y. y < lines w) (is_line k.0 l e) b)

pub home_in : (w : Config) (c : ℕ) (k : LineId) (l : ℕ) → (k.0 == l) ≡ true → l < lines w → c ≡ home_of w l → at_home w c k ≡ true
home_in w c k l e b h = both (has_line w k) (home_of w k.0 == c) (line_in w k l e b) (subst (λ y. (home_of w k.0 == y) ≡ true) (sym (h ∙ ap (home_of w) (is_line k.0 l e))) (test_true (home_of w k.0)))

one_same : (c : ℕ) → one c c ≡ 1
one_same c = grind (arith, nat_tests)

acks_come : (s : State) (c f u : ℕ) (m : Msg) → head f c Reply s.net ≡ Some (parcel f c m u) → acks_to c (parcel f c m u) ≡ one c c → 1 ≤ weigh (acks_to c) s.net
acks_come s c f u m h e =
    let less = cut f c Reply (parcel f c m u) s.net h (acks_to c) in
    let some = one_same c in
    omega arith

-- a case applies: in a state with the invariant, of a message of a line of memory that is at the head of its lane
pub case_applies : (w : Config) (l : ℕ) (v : Line) (c f u : ℕ) (m : Msg) (p : Part) (s : State) → l < lines w → is_of l m ≡ true → head f c (class_of m) s.net ≡ Some (parcel f c m u) → p.cells l ≡ s.cells c → Invariant (home_of w l) v s → Bounded w.top.clusters s → applies w c m p ≡ true
case_applies w l v c f u (Read k) p s b e h q i n = both (in_range w c (Read k)) true (home_in w c k l e b (routed (at w l) v s c f u (Read k) h (λ z. at_home_of c (home_of w l) f u k z) i)) refl
case_applies w l v c f u (ReadEx k) p s b e h q i n = both (in_range w c (ReadEx k)) true (home_in w c k l e b (routed (at w l) v s c f u (ReadEx k) h (λ z. at_home_of c (home_of w l) f u k z) i)) refl
case_applies w l v c f u (FwdRead k r) p s b e h q i n = both (in_range w c (FwdRead k r)) true (both (has_line w k) (has_cluster w r) (line_in w k l e b) (below r.0 w.top.clusters (named-head w.top.clusters f c Request (parcel f c (FwdRead k r) u) s.net n.net h).1)) refl
case_applies w l v c f u (FwdReadEx k r) p s b e h q i n = both (in_range w c (FwdReadEx k r)) true (both (has_line w k) (has_cluster w r) (line_in w k l e b) (below r.0 w.top.clusters (named-head w.top.clusters f c Request (parcel f c (FwdReadEx k r) u) s.net n.net h).1)) refl
case_applies w l v c f u (Inval k r) p s b e h q i n = both (in_range w c (Inval k r)) true (both (has_line w k) (has_cluster w r) (line_in w k l e b) (below r.0 w.top.clusters (named-head w.top.clusters f c Request (parcel f c (Inval k r) u) s.net n.net h).1)) refl
case_applies w l v c f u (WriteBack k d) p s b e h q i n = both (in_range w c (WriteBack k d)) true (home_in w c k l e b (routed (at w l) v s c f u (WriteBack k d) h (λ z. at_home_of c (home_of w l) f u k z) i)) refl
case_applies w l v c f u (SharingBack k d r) p s b e h q i n = both (in_range w c (SharingBack k d r)) true (both (at_home w c k) (has_cluster w r) (home_in w c k l e b (routed (at w l) v s c f u (SharingBack k d r) h (λ z. at_home_of c (home_of w l) f u k z) i)) (below r.0 w.top.clusters (named-head w.top.clusters f c Request (parcel f c (SharingBack k d r) u) s.net n.net h).1)) refl
case_applies w l v c f u (Transfer k r) p s b e h q i n = both (in_range w c (Transfer k r)) true (both (at_home w c k) (has_cluster w r) (home_in w c k l e b (routed (at w l) v s c f u (Transfer k r) h (λ z. at_home_of c (home_of w l) f u k z) i)) (below r.0 w.top.clusters (named-head w.top.clusters f c Request (parcel f c (Transfer k r) u) s.net n.net h).1)) refl
case_applies w l v c f u (LockAsk t x word y) p s b e h q i n = absurd (cc)
case_applies w l v c f u (Unlock t x word) p s b e h q i n = absurd (cc)
case_applies w l v c f u (Data k d) p s b e h q i n = both (in_range w c (Data k d)) true (line_in w k l e b) refl
case_applies w l v c f u (DataEx k d x) p s b e h q i n = both (in_range w c (DataEx k d x)) true (line_in w k l e b) refl
case_applies w l v c f u (Ack k) p s b e h q i n = both (in_range w c (Ack k)) (got_fits (p.cells k.0).acks) (line_in w k l e b) (subst (λ y. got_fits (p.cells y).acks ≡ true) (is_line k.0 l e) (subst (λ a. got_fits a.acks ≡ true) (sym q) (fits w l v c s i n (acks_come s c f u (Ack k) h refl))))
case_applies w l v c f u (TransferAck k) p s b e h q i n = both (in_range w c (TransferAck k)) (got_fits (p.cells k.0).acks) (line_in w k l e b) (subst (λ y. got_fits (p.cells y).acks ≡ true) (is_line k.0 l e) (subst (λ a. got_fits a.acks ≡ true) (sym q) (fits w l v c s i n (acks_come s c f u (TransferAck k) h refl))))
case_applies w l v c f u (Nak k) p s b e h q i n = both (in_range w c (Nak k)) true (line_in w k l e b) refl
case_applies w l v c f u (LockGrant t) p s b e h q i n = absurd (cc)
case_applies w l v c f u (UnlockAck t old) p s b e h q i n = absurd (cc)
