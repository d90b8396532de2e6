-- Each message goes to a cluster of the machine.
use Rattle.std.proofs.Common.{◌≡◌, ◌≢◌, ℕ, suc, ◌+◌, ◌≤◌, ◌<◌, ◌==◌, ◌&&◌, Bool, true, false, not, cond, Some, List, [], ◌∷◌, ◌++◌, refl, sym, ap, ◌∙◌, subst, inl, inr, arith}
use Rattle.std.proofs.Math.Nat.{div-lt_iff_lt-mul, mod-lt}
use Rattle.dash_base.specs.declared.id.ClusterId.{ClusterId}
use Rattle.dash_base.specs.declared.id.LineId.{LineId}
use Rattle.dash_base.specs.declared.line.Line.{Line}
use Rattle.dash_msg.specs.Classes.{class_of}
use Rattle.dash_msg.specs.declared.msg.Msg.{Msg}
use Rattle.dash_msg.specs.declared.msg.Msg.TheVariants.{Read, ReadEx, FwdRead, FwdReadEx, Inval, WriteBack, SharingBack, Transfer, LockAsk, Unlock, Data, DataEx, Ack, TransferAck, Nak, LockGrant, UnlockAck}
use Rattle.dash_msg.specs.declared.parcel.Sent.{Sent}
use Rattle.dash_event.specs.declared.event.Event.{Event}
use Rattle.dash_event.specs.declared.event.Kind.{Kind}
use Rattle.dash_event.specs.declared.event.Kind.TheVariants as kind
use Rattle.dash_base.specs.declared.need.Need.{Need}
use Rattle.dash_base.specs.declared.need.Need.TheVariants as needed
use Rattle.dash_model.specs.Maps.{weigh, without}
use Rattle.dash_model.specs.Config.{Config, all_harts, line_id, lines, home_of, cluster_of, lock_at, first_prefetch}
use Rattle.dash_model.specs.Net.{Packet, parcel, head, to}
use Rattle.dash_model.specs.Cell.{Copy, Held, Came, Refused, Slot, Reads, Owns, Acks, NoAcks, Entry, Uncached, SharedBy, Dirty, Cell, Home}
use Rattle.dash_model.specs.LineEffect.{LineEffect, still}
use Rattle.dash_model.specs.Part.{Part}
use Rattle.dash_model.specs.Requests.{invals_to, read_row, own_row, give_read, give_own, is_dirty_of, write_back_row, sharing_back_row, transfer_row}
use Rattle.dash_model.specs.Acts.{Act, AskRead, AskOwn, Again, Install, Evict, act_row, again_row, install_row, evict_row}
use Rattle.dash_model.specs.LineRows.{take_row}
use Rattle.dash_model.specs.HartRows.{PartEffect, HartEffect, lock_target}
use Rattle.dash_model.specs.HartGuards.{LockSends}
use Rattle.dash_model.specs.Guard.{Guard}
use Rattle.dash_model.specs.Ranges.{has_hart, own_lock, applies}
use Rattle.dash_model.specs.Row.{msg_row_if, row}
use Rattle.dash_model.specs.OnLine.{is_of, on, owned, came_own, brings_msg, brings, gives_back_msg, gives_back, leaves_msg, leaves}
use Rattle.dash_model.specs.LockFacts.{AllAreHarts, MessagesAreInRange, LinesAreOfMemory}
use Rattle.dash_model.specs.Machine.{Machine, Step, taken, AtHead, less, CanHappen, after, Reaches}
use Rattle.dash_model.proofs.Tests.{same, is_same, differ, is_below, both_left, one_same, one_other}
use Rattle.dash_model.proofs.OnNet.{AllOf}
use Rattle.dash_model.proofs.Each.{Each, EachSent, less_each, send_each, each_member}
use Rattle.dash_model.proofs.Facts.{Place, AtHome, At, Back, Moving, holds, returns, moves_from, owner_in, dirty_of}
use Rattle.dash_model.proofs.EntryBounds.{Strict, EntryBounded}
use Rattle.dash_model.proofs.Bounds.{Named, PacketNamed, named-head}
use Rattle.dash_model.proofs.Along.{AllAre, along, on-head}
use Rattle.dash_model.proofs.LineSteps.{IsLineMsg}
use Rattle.dash_model.proofs.Views.{View, Still, Does, IsNoTake, view}
use Rattle.dash_model.proofs.Taken.{take_on_if, case_applies}
use Rattle.dash_model.proofs.Reached.{each_reached}
use Rattle.dash_model.proofs.InRuns.{in_runs}
use Rattle.dash_model.proofs.Nowhere.{IsEmpty, none_first, nowhere}
use Rattle.dash_model.proofs.InRange.{in_or_out, in_range_all}
use Rattle.dash_model.proofs.LockViews.{IsPlain, LockView, Plain, Sends, Grants, Frees, Waits, Granted, Freed, Drops, lock_view}
use Rattle.dash_model.proofs.LockRange.{Queues, locks_fit}

-- a message goes to one of n clusters
abbrev pub GoesTo : ℕ → ℕ → Msg → Type 0
GoesTo n b m = b < n

-- acts
again_to : (n : ℕ) (l : LineId) (h : ℕ) (s : Slot) (a : Cell) (b : Home) → h < n → EachSent (GoesTo n) (again_row l h s a b).sent
again_to n l h (Reads m t Refused) a b low = (low, tt)
again_to n l h (Owns m t Refused) a b low = (low, tt)
again_to n l h _ a b low = tt

install_to : (n : ℕ) (s : Slot) (a : Cell) (b : Home) → EachSent (GoesTo n) (install_row s a b).sent
install_to n (Reads m t (Came d)) a b = tt
install_to n (Owns m t (Came d)) a b = tt
install_to n _ a b = tt

evict_to : (n : ℕ) (l : LineId) (h : ℕ) (c : Copy) (a : Cell) (b : Home) → h < n → EachSent (GoesTo n) (evict_row l h c a b).sent
evict_to n l h (Held hs (Some o) d) a b low = (low, tt)
evict_to n l h _ a b low = tt

act_to : (n : ℕ) (l : LineId) (h : ℕ) (x : Act) (a : Cell) (b : Home) → h < n → EachSent (GoesTo n) (act_row l h x a b).sent
act_to n l h (AskRead k t) a b low = (low, tt)
act_to n l h (AskOwn k t) a b low = (low, tt)
act_to n l h Again a b low = again_to n l h a.slot a b low
act_to n l h Install a b low = install_to n a.slot a b
act_to n l h (Evict t) a b low = evict_to n l h a.copy a b low
act_to n l h _ a b low = tt

-- numbers of clusters that are named
abbrev AllLow : ℕ → List ℕ → Type 0
AllLow n [] = Unit {0}
AllLow n (c ∷ cs) = (c < n) × AllLow n cs

strict_low : (lo n : ℕ) (cs : List ℕ) → Strict lo n cs → AllLow n cs
strict_low lo n [] s = tt
strict_low lo n (c ∷ cs) s = (s.1, strict_low (suc c) n cs s.2)

without_by : (n c : ℕ) (cs : List ℕ) (i : Bool) → c < n → AllLow n cs → AllLow n (cond i (c ∷ cs) cs)
without_by n c cs true l h = (l, h)
without_by n c cs false l h = h

without_low : (n f : ℕ) (cs : List ℕ) → AllLow n cs → AllLow n (without f cs)
unfolding without
without_low n f [] h = tt
without_low n f (c ∷ cs) h = without_by n c (without f cs) (not (c == f)) h.0 (without_low n f cs h.1)

invals_low : (n : ℕ) (l : LineId) (r : ℕ) (cs : List ℕ) (c : ℕ) (m : Msg) → AllLow n cs → c < n → EachSent (GoesTo n) (invals_to l r cs ++ (to c m ∷ []))
unfolding invals_to
invals_low n l r [] c m h low = (low, tt)
invals_low n l r (x ∷ xs) c m h low = (h.0, invals_low n l r xs c m h.1 low)

-- the clusters that an entry names
abbrev EntryLow : ℕ → Entry → Type 0
EntryLow n Uncached = Unit {0}
EntryLow n (SharedBy cs) = Strict 0 n cs
EntryLow n (Dirty o) = o < n

read_to : (n : ℕ) (l : LineId) (f : ℕ) (e : Entry) (a : Cell) (b : Home) → f < n → EntryLow n e → EachSent (GoesTo n) (read_row l f e a b).sent
read_to n l f Uncached a b low e = (low, tt)
read_to n l f (SharedBy cs) a b low e = (low, tt)
read_to n l f (Dirty o) a b low e = (e, tt)

own_to : (n : ℕ) (l : LineId) (f : ℕ) (e : Entry) (a : Cell) (b : Home) → f < n → EntryLow n e → EachSent (GoesTo n) (own_row l f e a b).sent
own_to n l f Uncached a b low e = (low, tt)
own_to n l f (SharedBy cs) a b low e = invals_low n l f (without f cs) f (DataEx l b.mem _) (without_low n f cs (strict_low 0 n cs e)) low
own_to n l f (Dirty o) a b low e = (e, tt)

give_read_to : (n : ℕ) (l : LineId) (h r : ℕ) (c : Copy) (k : Acks) (a : Cell) (b : Home) → h < n → r < n → EachSent (GoesTo n) (give_read l h r c k a b).sent
give_read_to n l h r (Held hs (Some o) d) NoAcks a b home low = (low, (home, tt))
give_read_to n l h r _ _ a b home low = (low, tt)

give_own_to : (n : ℕ) (l : LineId) (h r : ℕ) (c : Copy) (k : Acks) (a : Cell) (b : Home) → h < n → r < n → EachSent (GoesTo n) (give_own l h r c k a b).sent
give_own_to n l h r (Held hs (Some o) d) NoAcks a b home low = (low, (home, tt))
give_own_to n l h r _ _ a b home low = (low, tt)

write_back_to : (n : ℕ) (d : Line) (i : Bool) (a : Cell) (b : Home) → EachSent (GoesTo n) (write_back_row d i a b).sent
write_back_to n d true a b = tt
write_back_to n d false a b = tt

sharing_back_to : (n f : ℕ) (d : Line) (r : ℕ) (i : Bool) (a : Cell) (b : Home) → EachSent (GoesTo n) (sharing_back_row f d r i a b).sent
sharing_back_to n f d r true a b = tt
sharing_back_to n f d r false a b = tt

transfer_to : (n : ℕ) (l : LineId) (r : ℕ) (i : Bool) (a : Cell) (b : Home) → r < n → EachSent (GoesTo n) (transfer_row l r i a b).sent
transfer_to n l r true a b low = (low, tt)
transfer_to n l r false a b low = tt

cond_to : (n : ℕ) (i : Bool) (d e : LineEffect) → (i ≡ true → EachSent (GoesTo n) d.sent) → EachSent (GoesTo n) e.sent → EachSent (GoesTo n) (cond i d e).sent
cond_to n true d e f g = f refl
cond_to n false d e f g = g

-- a message that is taken
take_to : (n k h c f : ℕ) (m : Msg) (a : Cell) (b : Home) → f < n → h < n → (c ≡ h → EntryLow n b.entry) → Named n m → EachSent (GoesTo n) (take_row k h c f m a b).sent
take_to n k h c f (Read l) a b low home e named = cond_to n (c == h) (read_row l f b.entry a b) (still a b) (λ s. read_to n l f b.entry a b low (e (is_same c h s))) tt
take_to n k h c f (ReadEx l) a b low home e named = cond_to n (c == h) (own_row l f b.entry a b) (still a b) (λ s. own_to n l f b.entry a b low (e (is_same c h s))) tt
take_to n k h c f (FwdRead l r) a b low home e named = give_read_to n l h r.0 a.copy a.acks a b home named
take_to n k h c f (FwdReadEx l r) a b low home e named = give_own_to n l h r.0 a.copy a.acks a b home named
take_to n k h c f (Inval l r) a b low home e named = (named, tt)
take_to n k h c f (WriteBack l d) a b low home e named = write_back_to n d ((c == h) && is_dirty_of f b.entry) a b
take_to n k h c f (SharingBack l d r) a b low home e named = sharing_back_to n f d r.0 ((c == h) && is_dirty_of f b.entry) a b
take_to n k h c f (Transfer l r) a b low home e named = transfer_to n l r.0 ((c == h) && is_dirty_of f b.entry) a b named
take_to n k h c f _ a b low home e named = tt

-- each message goes to a cluster of the machine, and no other cluster has anything
pub record GoesWell (w : Config) (m : Machine) : Type 0 where
  pub net : Each (GoesTo w.top.clusters) m.net
  pub outside : (c : ℕ) → w.top.clusters ≤ c → (l : ℕ) → IsEmpty ((m.parts c).cells l)

-- so an entry names clusters of the machine
on_by : (P : ℕ → Msg → Type 0) (l : ℕ) (p : Packet) (ps : List Packet) (i : Bool) → P p.dst p.msg → Each P (on l ps) → Each P (cond i (p ∷ on l ps) (on l ps))
on_by P l p ps true h k = (h, k)
on_by P l p ps false h k = k

on_each : (P : ℕ → Msg → Type 0) (l : ℕ) (net : List Packet) → Each P net → Each P (on l net)
unfolding on
on_each P l [] h = tt
on_each P l (p ∷ ps) h = on_by P l p ps (is_of l p.msg) h.0 (on_each P l ps h.1)

above : (x n o : ℕ) → x < n → n ≤ o → x ≢ o
above x n o l b e = omega arith

brings_by : (x a b : ℕ) (m : Msg) → b ≢ x → brings_msg x a b m ≡ 0
brings_by x a b (DataEx l d k) n = one_other b x n
brings_by x a b _ n = refl

gives_by : (x a b : ℕ) (m : Msg) → a ≢ x → gives_back_msg x a b m ≡ 0
gives_by x a b (WriteBack l d) n = one_other a x n
gives_by x a b (SharingBack l d r) n = one_other a x n
gives_by x a b _ n = refl

leaves_by : (x a b : ℕ) (m : Msg) → a ≢ x → leaves_msg x a b m ≡ 0
leaves_by x a b (Transfer l r) n = one_other a x n
leaves_by x a b _ n = refl

brings_none : (n x : ℕ) (net : List Packet) → n ≤ x → Each (GoesTo n) net → weigh (brings x) net ≡ 0
unfolding weigh
brings_none n x [] out h = refl
brings_none n x (p ∷ ps) out h = let here = brings_by x p.src p.dst p.msg (above p.dst n x h.0 out) in let rest = brings_none n x ps out h.1 in omega arith

gives_none : (n x : ℕ) (net : List Packet) → n ≤ x → AllOf (PacketNamed n) net → weigh (gives_back x) net ≡ 0
unfolding weigh
gives_none n x [] out h = refl
gives_none n x (p ∷ ps) out h = let here = gives_by x p.src p.dst p.msg (above p.src n x h.0.0 out) in let rest = gives_none n x ps out h.1 in omega arith

leaves_none : (n x : ℕ) (net : List Packet) → n ≤ x → AllOf (PacketNamed n) net → weigh (leaves x) net ≡ 0
unfolding weigh
leaves_none n x [] out h = refl
leaves_none n x (p ∷ ps) out h = let here = leaves_by x p.src p.dst p.msg (above p.src n x h.0.0 out) in let rest = leaves_none n x ps out h.1 in omega arith

no_owner : (p : Place) (o : ℕ) → holds p o ≡ 0 → returns p o ≡ 0 → moves_from p o ≡ 0 → owner_in p o ≡ 0
no_owner AtHome o h r f = refl
no_owner (At x) o h r f = h
no_owner (Back x) o h r f = r
no_owner (Moving x y) o h r f = f

empty_none : (a : Cell) → IsEmpty a → owned a.copy + came_own a.slot ≡ 0
empty_none a e = let x : owned a.copy ≡ 0 = ap owned e.0 in let y : came_own a.slot ≡ 0 = ap came_own e.1 in omega arith

entry_low : (w : Config) (log : List Event) (m : Machine) (l : ℕ) → l < lines w → Reaches w log m → GoesWell w m → (e : Entry) → ((m.parts (home_of w l)).homes l).entry ≡ e → EntryLow w.top.clusters e
entry_low w log m l low r k Uncached is = tt
entry_low w log m l low r k (SharedBy cs) is = subst (EntryBounded w.top.clusters) is (each_reached w log m l low r).holds.bounded.entry
entry_low w log m l low r k (Dirty o) is =
    elim (in_or_out o w.top.clusters) [
      | inl b ↦ b
      | inr out ↦ (
          let at = (each_reached w log m l low r).holds in
          let t = (at.invariant.known o).facts.tokens in
          let none = empty_none ((m.parts o).cells l) (k.outside o out l) in
          let coming = brings_none w.top.clusters o (on l m.net) out (on_each (GoesTo w.top.clusters) l m.net k.net) in
          let back = gives_none w.top.clusters o (on l m.net) out at.bounded.net in
          let leaving = leaves_none w.top.clusters o (on l m.net) out at.bounded.net in
          let token = t.token in
          let given = t.back in
          let left = t.leaving in
          let nobody = no_owner at.invariant.place o (omega arith) (omega arith) (omega arith) in
          let named : dirty_of (Dirty o) o ≡ 0 = ap (λ y. dirty_of y o) (sym is) ∙ t.entry ∙ nobody in
          let one = one_same o in
          absurd (omega arith))
    ]

home_low : (w : Config) (l : ℕ) → home_of w l < w.top.clusters
home_low w l = mod-lt l w.top.clusters_in_range.low

hart_low : (w : Config) (h : ℕ) → h < all_harts w → cluster_of w h < w.top.clusters
hart_low w h l = (div-lt_iff_lt-mul w.top.harts_in_range.low).1 l

lock_low : (w : Config) (h : ℕ) (m : Msg) (need : Need) (p : Part) → LockSends h m need p → lock_target w m < w.top.clusters
lock_low w h m (needed.Ask word value) p e = subst (λ y. lock_target w y < w.top.clusters) (sym e) (mod-lt (lock_at w word.0) w.top.clusters_in_range.low)
lock_low w h m (needed.Unlock word) p e = subst (λ y. lock_target w y < w.top.clusters) (sym e.0) (mod-lt (lock_at w word.0) w.top.clusters_in_range.low)
lock_low w h m _ p e = absurd e

-- of one line, and of none
no_messages : (P : ℕ → Msg → Type 0) (l : ℕ) (ss : List Sent) → AllAre l true ss → AllAre l false ss → EachSent P ss
no_messages P l [] h k = tt
no_messages P l (s ∷ ss) h k = let a = h.0 in let b = k.0 in absurd (cc)

line_to : (w : Config) (e : Kind) (p : Part) (r : PartEffect) (l : ℕ) → AllAre l true r.sent → View w e p r.part r.sent → EachSent (GoesTo w.top.clusters) r.sent
line_to w e p r l h (Still s) = no_messages (GoesTo w.top.clusters) l r.sent h (s.sent l)
line_to w e p r l h (Does k a s) = subst (EachSent (GoesTo w.top.clusters)) (sym s.sent) (act_to w.top.clusters (line_id k) (home_of w k) a (p.cells k) (p.homes k) (home_low w k))

-- each event but Take
other_to : (w : Config) (c : ℕ) (p : Part) (e : Kind) (r : PartEffect) → IsNoTake e → Queues w p → View w e p r.part r.sent → LockView w c p e r → EachSent (GoesTo w.top.clusters) r.sent
other_to w c p _ _ t q v (Plain e r k) = line_to w e p r k.line k.sent v
other_to w c p _ _ t q v (Sends g m need z mine needs sends l) = (lock_low w g.0 m need p sends, tt)
other_to w c p _ _ t q v (Grants a x xs own is mine) = (hart_low w x.hart (subst (AllAreHarts w) is (q (lock_at w a.word.0))).0, tt)
other_to w c p _ _ t q v (Frees f a s) = (hart_low w a.hart.0 (is_below a.hart.0 (all_harts w) (both_left (has_hart w a.hart) (own_lock w c a.word) s)), tt)
other_to w c p _ _ t q v (Waits f h n word x range) = tt
other_to w c p _ _ t q v (Granted f h z l) = tt
other_to w c p _ _ t q v (Freed f h old z l) = tt
other_to w c p _ _ t q v (Drops f m k) = tt

-- the line of a message
line_no : Msg → ℕ
line_no (Read l) = l.0
line_no (ReadEx l) = l.0
line_no (FwdRead l r) = l.0
line_no (FwdReadEx l r) = l.0
line_no (Inval l r) = l.0
line_no (WriteBack l d) = l.0
line_no (SharingBack l d r) = l.0
line_no (Transfer l r) = l.0
line_no (Data l d) = l.0
line_no (DataEx l d n) = l.0
line_no (Ack l) = l.0
line_no (TransferAck l) = l.0
line_no (Nak l) = l.0
line_no _ = 0

of_its_line : (m : Msg) → IsLineMsg m → is_of (line_no m) m ≡ true
unfolding line_no
of_its_line (LockAsk h n word v) i = absurd i
of_its_line (Unlock h n word) i = absurd i
of_its_line (LockGrant h) i = absurd i
of_its_line (UnlockAck h old) i = absurd i
of_its_line (Read l) i = same l.0
of_its_line (ReadEx l) i = same l.0
of_its_line (FwdRead l r) i = same l.0
of_its_line (FwdReadEx l r) i = same l.0
of_its_line (Inval l r) i = same l.0
of_its_line (WriteBack l d) i = same l.0
of_its_line (SharingBack l d r) i = same l.0
of_its_line (Transfer l r) i = same l.0
of_its_line (Data l d) i = same l.0
of_its_line (DataEx l d n) i = same l.0
of_its_line (Ack l) i = same l.0
of_its_line (TransferAck l) i = same l.0
of_its_line (Nak l) i = same l.0

module _ (w : Config) (log : List Event) (m : Machine) (c u : ℕ) (f : ClusterId) (x : Msg) (d : HartEffect) (r : Reaches w log m) (k : GoesWell w m) (first : head f.0 c (class_of x) m.net ≡ Some (parcel f.0 c x u)) where
  -- a message of a line of memory
  line_taken : (l : ℕ) → l < lines w → is_of l x ≡ true → EachSent (GoesTo w.top.clusters) (msg_row_if (applies w c x (m.parts c)) w c f.0 x d (m.parts c)).sent
  line_taken l low o =
      let n = w.top.clusters in
      let at = each_reached w log m l low r in
      let on_it = on-head l f.0 c (class_of x) (parcel f.0 c x u) m.net o first in
      let applied = case_applies w l at.content c f.0 u x (m.parts c) (along w l m) low o on_it refl at.holds.invariant at.holds.bounded in
      let row = take_on_if w c f.0 x d (m.parts c) l (applies w c x (m.parts c)) applied o in
      let named = named-head n f.0 c (class_of x) (parcel f.0 c x u) (on l m.net) at.holds.bounded.net on_it in
      let entry : c ≡ home_of w l → EntryLow n ((m.parts c).homes l).entry = λ e. subst (λ y. EntryLow n ((m.parts y).homes l).entry) (sym e) (entry_low w log m l low r k ((m.parts (home_of w l)).homes l).entry refl) in
      subst (EachSent (GoesTo n)) (sym row.sent) (take_to n (first_prefetch w) (home_of w l) c f.0 x ((m.parts c).cells l) ((m.parts c).homes l) named.0 (home_low w l) entry named.1)

  line_msg_taken : IsLineMsg x → EachSent (GoesTo w.top.clusters) (msg_row_if (applies w c x (m.parts c)) w c f.0 x d (m.parts c)).sent
  line_msg_taken i =
      let o = of_its_line x i in
      elim (in_or_out (line_no x) (lines w)) [
        | inl low ↦ line_taken (line_no x) low o
        | inr out ↦ absurd (none_first f.0 c (class_of x) (parcel f.0 c x u) (on (line_no x) m.net) (nowhere w log m r (line_no x) out).net (on-head (line_no x) f.0 c (class_of x) (parcel f.0 c x u) m.net o first))
      ]

-- a message that is taken
sent_by : (w : Config) (c : ℕ) (f : ClusterId) (x : Msg) (p : Part) (e : Kind) (r : PartEffect) (P : ℕ → Msg → Type 0) → e ≡ kind.Take f x → (IsLineMsg x → EachSent P r.sent) → LockView w c p e r → EachSent P r.sent
sent_by w c f x p _ _ P is line (Plain e r k) = line (subst IsPlain is k.plain)
sent_by w c f x p _ _ P is line (Sends g m need z mine needs sends l) = absurd (cc)
sent_by w c f x p _ _ P is line (Grants a y ys own was mine) = absurd (cc)
sent_by w c f x p _ _ P is line (Frees g a s) = absurd (cc)
sent_by w c f x p _ _ P is line (Waits g h n word v range) = tt
sent_by w c f x p _ _ P is line (Granted g h z l) = tt
sent_by w c f x p _ _ P is line (Freed g h old z l) = tt
sent_by w c f x p _ _ P is line (Drops g m k) = tt

row_to : (w : Config) (log : List Event) (m : Machine) (c u : ℕ) (e : Kind) (d : HartEffect) → Reaches w log m → GoesWell w m → Guard w c e d (m.parts c) → AtHead (taken c u e) m.net → EachSent (GoesTo w.top.clusters) (row w c e d (m.parts c)).sent
unfolding row
row_to w log m c u (kind.Take f x) d r k can first = sent_by w c f x (m.parts c) (kind.Take f x) (row w c (kind.Take f x) d (m.parts c)) (GoesTo w.top.clusters) refl (line_msg_taken w log m c u f x d r k first) (lock_view w c (kind.Take f x) d (m.parts c) can)
row_to w log m c u e d r k can first = other_to w c (m.parts c) e (row w c e d (m.parts c)) tt ((locks_fit w log m r).queues c) (view w c e d (m.parts c) tt can) (lock_view w c e d (m.parts c) can)

outside_by : (l : ℕ) (q p : Part) (i : Bool) → i ≡ false → IsEmpty (p.cells l) → IsEmpty ((cond i q p).cells l)
outside_by l q p true e h = absurd (cc)
outside_by l q p false e h = h

goes_step : (w : Config) (log : List Event) (m : Machine) (g : Step) → Reaches w log m → CanHappen w m g → GoesWell w m → GoesWell w (after w m g)
goes_step w log m g r can k =
    let c = g.event.cluster.0 in
    let n = w.top.clusters in
    let d = row w c g.event.kind g.done (m.parts c) in
    let low = can.cluster in
    record {
      net = send_each (GoesTo n) g.event.stamp c (less (taken c g.stamp g.event.kind) m.net) d.sent (less_each (GoesTo n) (taken c g.stamp g.event.kind) m.net k.net) (row_to w log m c g.stamp g.event.kind g.done r k can.steps.guard can.head);
      outside = λ x out l. outside_by l (record d.part { last = g.event.stamp }) (m.parts x) (x == c) (differ x c (λ e. above c n x low out (sym e))) (k.outside x out l);
    }

goes_well : (w : Config) (log : List Event) (m : Machine) → Reaches w log m → GoesWell w m
goes_well w log m r = in_runs w (λ es n. GoesWell w n) (record { net = tt; outside = λ c out l. (refl, refl) }) (λ es n g reached can k. goes_step w es n g reached can k) log m r

pub messages_in_range : MessagesAreInRange
messages_in_range w log m q r o = (each_member (GoesTo w.top.clusters) q m.net o (goes_well w log m r).net, in_range_all w log m q r o)

pub lines_are_of_memory : LinesAreOfMemory
lines_are_of_memory w log m l c (inl out) r = (nowhere w log m r l out).cells c
lines_are_of_memory w log m l c (inr out) r = (goes_well w log m r).outside c out l
