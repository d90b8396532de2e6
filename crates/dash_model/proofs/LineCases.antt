-- Each message of a line finds a case of its row.
use Rattle.std.proofs.Common.{◌≡◌, ℕ, ◌+◌, ◌≤◌, ◌<◌, ◌==◌, true, Some, List, refl, subst, arith}
use Rattle.std.proofs.lemmas.Bool.Decides.{nat_tests}
use Rattle.dash_base.specs.declared.id.LineId.{LineId}
use Rattle.dash_msg.specs.Classes.{class_of}
use Rattle.dash_msg.specs.declared.msg.Msg.{Msg}
use Rattle.dash_msg.specs.declared.msg.Msg.TheVariants.{Read, ReadEx, FwdRead, FwdReadEx, Inval, WriteBack, SharingBack, Transfer, LockAsk, Unlock, Data, DataEx, Ack, TransferAck, Nak, LockGrant, UnlockAck}
use Rattle.dash_event.specs.declared.event.Event.{Event}
use Rattle.dash_model.specs.Maps.{weigh}
use Rattle.dash_model.specs.Config.{Config, lines, home_of}
use Rattle.dash_model.specs.Net.{Packet, parcel, head}
use Rattle.dash_model.specs.Cell.{Asked, Poisoned, Came, Refused, Slot, NoSlot, Reads, Owns, Acks, NoAcks, Counting, Expects, Entry, Uncached, SharedBy, Dirty}
use Rattle.dash_model.specs.OnLine.{on, is_of, datas, brings, naks, gives_back, leaves, acks_to}
use Rattle.dash_model.specs.Requests.{is_dirty_of}
use Rattle.dash_model.specs.Ranges.{has_line, has_cluster, at_home, in_range, has_space}
use Rattle.dash_model.specs.Machine.{Machine, Reaches}
use Rattle.dash_model.specs.Cases.{awaits_copy, awaits_own, awaits, is_pending, FindsCase}
use Rattle.dash_model.proofs.Tests.{same, is_same, both_left, both_right, one_same}
use Rattle.dash_model.proofs.LineState.{State}
use Rattle.dash_model.proofs.Weigh.{cut}
use Rattle.dash_model.proofs.Along.{along, on-head}
use Rattle.dash_model.proofs.Facts.{Place, AtHome, At, Back, Moving, returns, moves_from, owner_in, dirty_of, waits_read, waits_own, Counted, counting, Facts}
use Rattle.dash_model.proofs.LineSteps.{IsLineMsg}
use Rattle.dash_model.proofs.Taken.{case_applies}
use Rattle.dash_model.proofs.Reached.{each_reached}

-- what the head weighs, all do
pub weighs : (a b u : ℕ) (m : Msg) (net : List Packet) (v : Packet → ℕ) → head a b (class_of m) net ≡ Some (parcel a b m u) → v (parcel a b m u) ≡ 1 → 1 ≤ weigh v net
weighs a b u m net v h e = let c = cut a b (class_of m) (parcel a b m u) net h v in omega arith

back_is_owner : (p : Place) (x : ℕ) → returns p x ≤ owner_in p x
back_is_owner AtHome x = omega arith
back_is_owner (At o) x = omega arith
back_is_owner (Back o) x = omega arith
back_is_owner (Moving o r) x = omega arith

mover_is_owner : (p : Place) (x : ℕ) → moves_from p x ≤ owner_in p x
mover_is_owner AtHome x = omega arith
mover_is_owner (At o) x = omega arith
mover_is_owner (Back o) x = omega arith
mover_is_owner (Moving o r) x = omega arith

dirty_true : (e : Entry) (x : ℕ) → 1 ≤ dirty_of e x → is_dirty_of x e ≡ true
dirty_true (Dirty o) x l = grind (arith, nat_tests)
dirty_true Uncached x l = absurd (omega arith)
dirty_true (SharedBy cs) x l = absurd (omega arith)

reading_true : (s : Slot) → 1 ≤ waits_read s → awaits_copy s ≡ true
reading_true (Reads n t Asked) l = refl
reading_true (Reads n t Poisoned) l = refl
reading_true _ l = absurd (omega arith)

owning_true : (s : Slot) → 1 ≤ waits_own s → awaits_own s ≡ true
owning_true (Owns n t Asked) l = refl
owning_true _ l = absurd (omega arith)

waiting_true : (s : Slot) → 1 ≤ waits_read s + waits_own s → awaits s ≡ true
waiting_true (Reads n t Asked) l = refl
waiting_true (Reads n t Poisoned) l = refl
waiting_true (Owns n t Asked) l = refl
waiting_true _ l = absurd (omega arith)

pending_true : (s : Slot) (a : Acks) (n d h : ℕ) → 1 ≤ n → Counted s a n d h → is_pending a ≡ true
pending_true s (Counting g o) n d h l k = refl
pending_true s (Expects m g o) n d h l k = refl
pending_true (Owns i t Asked) NoAcks n d h l k = absurd k
pending_true (Owns i t Refused) NoAcks n d h l k = absurd k
pending_true (Owns i t Poisoned) NoAcks n d h l k = absurd k
pending_true (Owns i t (Came x)) NoAcks n d h l k = let z = k.0 in absurd (omega arith)
pending_true (Reads i t p) NoAcks n d h l k = let z = k.0 in absurd (omega arith)
pending_true NoSlot NoAcks n d h l k = let z = k.0 in absurd (omega arith)

-- whoever sends a content back, or tells that it passed the line on, is the owner that the entry names
from_back : (h : ℕ) (s : State) (p : Place) (f : ℕ) → Facts h s p f → 1 ≤ weigh (gives_back f) s.net → is_dirty_of f s.home.entry ≡ true
from_back h s p f k n =
    let b = k.tokens.back in
    let o = back_is_owner p f in
    let e = k.tokens.entry in
    dirty_true s.home.entry f (omega arith)

from_leaving : (h : ℕ) (s : State) (p : Place) (f : ℕ) → Facts h s p f → 1 ≤ weigh (leaves f) s.net → is_dirty_of f s.home.entry ≡ true
from_leaving h s p f k n =
    let b = k.tokens.leaving in
    let o = mover_is_owner p f in
    let e = k.tokens.entry in
    dirty_true s.home.entry f (omega arith)

line_low : (w : Config) (l : LineId) → has_line w l ≡ true → l.0 < lines w
line_low w l e = grind (arith, nat_tests)

module _ (w : Config) (log : List Event) (m : Machine) (c f u : ℕ) (r : Reaches w log m) where
  -- the message is first in its lane
  abbrev pub First : Msg → Type 0
  First x = head f c (class_of x) m.net ≡ Some (parcel f c x u)

  -- what it weighs among the messages of its line
  weighs_on : (l : ℕ) (x : Msg) (v : Packet → ℕ) → is_of l x ≡ true → First x → v (parcel f c x u) ≡ 1 → 1 ≤ weigh v (on l m.net)
  weighs_on l x v e first is = weighs f c u x (on l m.net) v (on-head l f c (class_of x) (parcel f c x u) m.net e first) is

  facts : (l : LineId) → has_line w l ≡ true → (p : Place) × ((x : ℕ) → Facts (home_of w l.0) (along w l.0 m) p x)
  facts l e = let k = each_reached w log m l.0 (line_low w l e) r in (k.holds.invariant.place, λ x. (k.holds.invariant.known x).facts)

  at_its_home : (l : LineId) → at_home w c l ≡ true → is_dirty_of f ((m.parts (home_of w l.0)).homes l.0).entry ≡ true → is_dirty_of f ((m.parts c).homes l.0).entry ≡ true
  at_its_home l e d = subst (λ y. is_dirty_of f ((m.parts y).homes l.0).entry ≡ true) (is_same (home_of w l.0) c (both_right (has_line w l) (home_of w l.0 == c) e)) d

  -- one acknowledgement more fits
  has_room : (l : LineId) (x : Msg) → is_of l.0 x ≡ true → First x → has_line w l ≡ true → has_space w c x (m.parts c) ≡ true
  has_room l x o first e =
      let k = each_reached w log m l.0 (line_low w l e) r in
      both_right (in_range w c x) (has_space w c x (m.parts c)) (case_applies w l.0 k.content c f u x (m.parts c) (along w l.0 m) (line_low w l e) o (on-head l.0 f c (class_of x) (parcel f c x u) m.net o first) refl k.holds.invariant k.holds.bounded)

  acknowledged : (l : LineId) (x : Msg) → is_of l.0 x ≡ true → First x → has_line w l ≡ true → acks_to c (parcel f c x u) ≡ 1 → is_pending ((m.parts c).cells l.0).acks ≡ true
  acknowledged l x o first e is =
      let k = facts l e in
      let n = weighs_on l.0 x (acks_to c) o first is in
      pending_true ((m.parts c).cells l.0).slot ((m.parts c).cells l.0).acks (counting c (along w l.0 m)) _ _ (omega arith) (k.1 c).counts

  returned : (l : LineId) (x : Msg) → is_of l.0 x ≡ true → First x → at_home w c l ≡ true → gives_back f (parcel f c x u) ≡ 1 → is_dirty_of f ((m.parts c).homes l.0).entry ≡ true
  returned l x o first e is =
      let k = facts l (both_left (has_line w l) (home_of w l.0 == c) e) in
      at_its_home l e (from_back (home_of w l.0) (along w l.0 m) k.0 f (k.1 f) (weighs_on l.0 x (gives_back f) o first is))

  -- each message of a line that is in range finds a case
  pub line_finds : (x : Msg) → IsLineMsg x → First x → in_range w c x ≡ true → FindsCase w c f x (m.parts c)
  line_finds (Read l) t first e = record { range = e; room = refl; case = refl }
  line_finds (ReadEx l) t first e = record { range = e; room = refl; case = refl }
  line_finds (FwdRead l q) t first e = record { range = e; room = refl; case = refl }
  line_finds (FwdReadEx l q) t first e = record { range = e; room = refl; case = refl }
  line_finds (Inval l q) t first e = record { range = e; room = refl; case = refl }
  line_finds (WriteBack l d) t first e = record { range = e; room = refl; case = returned l (WriteBack l d) (same l.0) first e (one_same f) }
  line_finds (SharingBack l d q) t first e = record { range = e; room = refl; case = returned l (SharingBack l d q) (same l.0) first (both_left (at_home w c l) (has_cluster w q) e) (one_same f) }
  line_finds (Transfer l q) t first e =
      let home = both_left (at_home w c l) (has_cluster w q) e in
      let k = facts l (both_left (has_line w l) (home_of w l.0 == c) home) in
      record { range = e; room = refl; case = at_its_home l home (from_leaving (home_of w l.0) (along w l.0 m) k.0 f (k.1 f) (weighs_on l.0 (Transfer l q) (leaves f) (same l.0) first (one_same f))) }
  line_finds (LockAsk h n word v) t first e = absurd t
  line_finds (Unlock h n word) t first e = absurd t
  line_finds (Data l d) t first e =
      let n = weighs_on l.0 (Data l d) (datas c) (same l.0) first (one_same c) in
      let b = ((facts l e).1 c).requests.read in
      record { range = e; room = refl; case = reading_true ((m.parts c).cells l.0).slot (omega arith) }
  line_finds (DataEx l d q) t first e =
      let n = weighs_on l.0 (DataEx l d q) (brings c) (same l.0) first (one_same c) in
      let b = ((facts l e).1 c).requests.own in
      record { range = e; room = refl; case = owning_true ((m.parts c).cells l.0).slot (omega arith) }
  line_finds (Ack l) t first e = record { range = e; room = has_room l (Ack l) (same l.0) first e; case = acknowledged l (Ack l) (same l.0) first e (one_same c) }
  line_finds (TransferAck l) t first e = record { range = e; room = has_room l (TransferAck l) (same l.0) first e; case = acknowledged l (TransferAck l) (same l.0) first e (one_same c) }
  line_finds (Nak l) t first e =
      let n = weighs_on l.0 (Nak l) (naks c) (same l.0) first (one_same c) in
      let b = ((facts l e).1 c).requests.all in
      record { range = e; room = refl; case = waiting_true ((m.parts c).cells l.0).slot (omega arith) }
  line_finds (LockGrant h) t first e = absurd t
  line_finds (UnlockAck h old) t first e = absurd t
