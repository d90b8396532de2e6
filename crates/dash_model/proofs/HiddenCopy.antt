-- A line with the copy of one cluster hidden: while that cluster waits for acknowledgements, no step shows the copy to anything else.
use Rattle.std.proofs.Common.{◌≡◌, ◌≢◌, ℕ, ◌==◌, ◌&&◌, Bool, true, false, cond, Some, List, refl, sym, ap, ◌∙◌, subst, inl, inr}
use Rattle.dash_base.specs.declared.id.LineId.{LineId}
use Rattle.dash_base.specs.declared.line.Line.{Line}
use Rattle.dash_msg.specs.Classes.{class_of}
use Rattle.dash_msg.specs.declared.msg.Msg.{Msg}
use Rattle.dash_msg.specs.declared.msg.Msg.TheVariants.{Read, ReadEx, FwdRead, FwdReadEx, WriteBack, SharingBack, Transfer}
use Rattle.dash_model.specs.Net.{Packet, parcel, head, tail, send}
use Rattle.dash_model.specs.Cell.{Copy, NoCopy, Held, Came, Refused, Slot, Reads, Owns, Acks, NoAcks, Entry, Uncached, SharedBy, Dirty, Cell, Home}
use Rattle.dash_model.specs.LineEffect.{LineEffect, still}
use Rattle.dash_model.specs.Acts.{Act, Again, Install, Commit, Evict, BusRead, again_row, install_row, act_row}
use Rattle.dash_model.specs.Requests.{read_row, own_row, give_read, give_own, is_dirty_of, write_back_row, sharing_back_row, transfer_row}
use Rattle.dash_model.specs.LineRows.{take_row}
use Rattle.dash_model.proofs.LineState.{State, Where, Acts, Takes, apply, after, MayAct}
use Rattle.dash_model.proofs.Along.{same_or_not}
use Rattle.dash_model.proofs.Tests.{same, is_same, differ}
use Rattle.dash_model.proofs.OnNet.{AllOf}
use Rattle.dash_model.proofs.Everywhere.{CopyHas, SlotHas, MsgHas, Everywhere, take_keeps, act_keeps}

abbrev pub bare : Cell → Cell
bare a = record a { copy = NoCopy }

abbrev pub hide : ℕ → State → State
hide c s = record s { cells = λ x. cond (x == c) (bare (s.cells x)) (s.cells x) }

-- two effects that differ in the copy alone, and maybe in the entry of acknowledgements
record Alike (d e : LineEffect) : Type 0 where
  pub sent : d.sent ≡ e.sent
  pub home : d.home ≡ e.home
  pub slot : d.cell.slot ≡ e.cell.slot

alike_if : (i : Bool) (d e f g : LineEffect) → Alike d f → Alike e g → Alike (cond i d e) (cond i f g)
alike_if true d e f g x y = x
alike_if false d e f g x y = y

alike_still : (a : Cell) (b : Home) → Alike (still (bare a) b) (still a b)
alike_still a b = record { sent = refl; home = refl; slot = refl }

alike_read : (l : LineId) (f : ℕ) (e : Entry) (a : Cell) (b : Home) → Alike (read_row l f e (bare a) b) (read_row l f e a b)
alike_read l f Uncached a b = record { sent = refl; home = refl; slot = refl }
alike_read l f (SharedBy cs) a b = record { sent = refl; home = refl; slot = refl }
alike_read l f (Dirty o) a b = record { sent = refl; home = refl; slot = refl }

alike_own : (l : LineId) (f : ℕ) (e : Entry) (a : Cell) (b : Home) → Alike (own_row l f e (bare a) b) (own_row l f e a b)
alike_own l f Uncached a b = record { sent = refl; home = refl; slot = refl }
alike_own l f (SharedBy cs) a b = record { sent = refl; home = refl; slot = refl }
alike_own l f (Dirty o) a b = record { sent = refl; home = refl; slot = refl }

alike_give_read : (l : LineId) (h r : ℕ) (c : Copy) (k : Acks) (a : Cell) (b : Home) → k ≢ NoAcks → Alike (give_read l h r NoCopy k (bare a) b) (give_read l h r c k a b)
alike_give_read l h r (Held hs (Some o) d) NoAcks a b n = absurd (n refl)
alike_give_read l h r _ _ a b n = record { sent = refl; home = refl; slot = refl }

alike_give_own : (l : LineId) (h r : ℕ) (c : Copy) (k : Acks) (a : Cell) (b : Home) → k ≢ NoAcks → Alike (give_own l h r NoCopy k (bare a) b) (give_own l h r c k a b)
alike_give_own l h r (Held hs (Some o) d) NoAcks a b n = absurd (n refl)
alike_give_own l h r _ _ a b n = record { sent = refl; home = refl; slot = refl }

alike_write_back : (d : Line) (i : Bool) (a : Cell) (b : Home) → Alike (write_back_row d i (bare a) b) (write_back_row d i a b)
alike_write_back d true a b = record { sent = refl; home = refl; slot = refl }
alike_write_back d false a b = record { sent = refl; home = refl; slot = refl }

alike_sharing_back : (f : ℕ) (d : Line) (r : ℕ) (i : Bool) (a : Cell) (b : Home) → Alike (sharing_back_row f d r i (bare a) b) (sharing_back_row f d r i a b)
alike_sharing_back f d r true a b = record { sent = refl; home = refl; slot = refl }
alike_sharing_back f d r false a b = record { sent = refl; home = refl; slot = refl }

alike_transfer : (l : LineId) (r : ℕ) (i : Bool) (a : Cell) (b : Home) → Alike (transfer_row l r i (bare a) b) (transfer_row l r i a b)
alike_transfer l r true a b = record { sent = refl; home = refl; slot = refl }
alike_transfer l r false a b = record { sent = refl; home = refl; slot = refl }

take_alike : (k h c f : ℕ) (m : Msg) (a : Cell) (b : Home) → a.acks ≢ NoAcks → Alike (take_row k h c f m (bare a) b) (take_row k h c f m a b)
take_alike k h c f (Read l) a b n = alike_if (c == h) (read_row l f b.entry (bare a) b) (still (bare a) b) (read_row l f b.entry a b) (still a b) (alike_read l f b.entry a b) (alike_still a b)
take_alike k h c f (ReadEx l) a b n = alike_if (c == h) (own_row l f b.entry (bare a) b) (still (bare a) b) (own_row l f b.entry a b) (still a b) (alike_own l f b.entry a b) (alike_still a b)
take_alike k h c f (FwdRead l r) a b n = alike_give_read l h r.0 a.copy a.acks a b n
take_alike k h c f (FwdReadEx l r) a b n = alike_give_own l h r.0 a.copy a.acks a b n
take_alike k h c f (WriteBack l d) a b n = alike_write_back d ((c == h) && is_dirty_of f b.entry) a b
take_alike k h c f (SharingBack l d r) a b n = alike_sharing_back f d r.0 ((c == h) && is_dirty_of f b.entry) a b
take_alike k h c f (Transfer l r) a b n = alike_transfer l r.0 ((c == h) && is_dirty_of f b.entry) a b
take_alike k h c f _ a b n = record { sent = refl; home = refl; slot = refl }

alike_again : (l : LineId) (h : ℕ) (s : Slot) (a : Cell) (b : Home) → Alike (again_row l h s (bare a) b) (again_row l h s a b)
alike_again l h (Reads n t Refused) a b = record { sent = refl; home = refl; slot = refl }
alike_again l h (Owns n t Refused) a b = record { sent = refl; home = refl; slot = refl }
alike_again l h _ a b = record { sent = refl; home = refl; slot = refl }

alike_install : (s : Slot) (a : Cell) (b : Home) → Alike (install_row s (bare a) b) (install_row s a b)
alike_install (Reads n t (Came d)) a b = record { sent = refl; home = refl; slot = refl }
alike_install (Owns n t (Came d)) a b = record { sent = refl; home = refl; slot = refl }
alike_install _ a b = record { sent = refl; home = refl; slot = refl }

-- where the copy isn't there a commit does as little as an access of the bus
abbrev stands_for : Act → Act
stands_for (Commit t d) = BusRead t
stands_for y = y

stands_not : (y : Act) (t : ℕ) (d : Line) → stands_for y ≡ Commit t d → ⊥
stands_not (Commit u x) t d e = absurd (cc)
stands_not _ t d e = absurd (cc)

act_alike : (l : LineId) (h : ℕ) (y : Act) (a : Cell) (b : Home) → MayAct y a → a.acks ≢ NoAcks → Alike (act_row l h (stands_for y) (bare a) b) (act_row l h y a b)
act_alike l h (Evict t) a b may n = absurd (n may)
act_alike l h Again a b may n = alike_again l h a.slot a b
act_alike l h Install a b may n = alike_install a.slot a b
act_alike l h _ a b may n = record { sent = refl; home = refl; slot = refl }

-- the state with the copy hidden, and the step's effect there and here
module _ (P : Line → Type 0) where
  hidden_copy : (a : Cell) (i : Bool) → (i ≡ false → CopyHas P a.copy) → CopyHas P (cond i (bare a) a).copy
  hidden_copy a true h = tt
  hidden_copy a false h = h refl

  slot_bare : (a : Cell) (i : Bool) → SlotHas P a.slot → SlotHas P (cond i (bare a) a).slot
  slot_bare a true h = h
  slot_bare a false h = h

  slot_shown : (a : Cell) (i : Bool) → SlotHas P (cond i (bare a) a).slot → SlotHas P a.slot
  slot_shown a true h = h
  slot_shown a false h = h

  pub hide_all : (c : ℕ) (s : State) → Everywhere P s → Everywhere P (hide c s)
  hide_all c s e = record { net = e.net; mem = e.mem; copy = λ x. hidden_copy (s.cells x) (x == c) (λ i. e.copy x); slot = λ x. slot_bare (s.cells x) (x == c) (e.slot x) }

  -- what is not at the cluster isn't hidden
  pub shown_copy : (c : ℕ) (s : State) (x : ℕ) → Everywhere P (hide c s) → x ≢ c → CopyHas P (s.cells x).copy
  shown_copy c s x e n = subst (λ b. CopyHas P (cond b (bare (s.cells x)) (s.cells x)).copy) (differ x c n) (e.copy x)

  pub shown_slot : (c : ℕ) (s : State) (x : ℕ) → Everywhere P (hide c s) → SlotHas P (s.cells x).slot
  shown_slot c s x e = slot_shown (s.cells x) (x == c) (e.slot x)

  copy_here : (d f a : Cell) (i : Bool) → CopyHas P (cond i d (cond i (bare a) a)).copy → CopyHas P (cond i (bare (cond i f a)) (cond i f a)).copy
  copy_here d f a true h = tt
  copy_here d f a false h = h

  slot_here : (d f a : Cell) (i j : Bool) → d.slot ≡ f.slot → SlotHas P (cond j d (cond i (bare a) a)).slot → SlotHas P (cond i (bare (cond j f a)) (cond j f a)).slot
  slot_here d f a true true e h = subst (SlotHas P) e h
  slot_here d f a false true e h = subst (SlotHas P) e h
  slot_here d f a true false e h = h
  slot_here d f a false false e h = h

  -- at the cluster itself
  here : (i c : ℕ) (d e : LineEffect) (n : List Packet) (s : State) → Alike d e → Everywhere P (apply i c d n (hide c s)) → Everywhere P (hide c (apply i c e n s))
  here i c d e n s k h = record {
    net = subst (λ ss. AllOf (λ p. MsgHas P p.msg) (send n i c ss)) k.sent h.net;
    mem = subst (λ (b : Home). P b.mem) k.home h.mem;
    copy = λ x. copy_here d.cell e.cell (s.cells x) (x == c) (h.copy x);
    slot = λ x. slot_here d.cell e.cell (s.cells x) (x == c) (x == c) k.slot (h.slot x);
  }

  copy_there : (d a : Cell) (i j : Bool) → (i ≡ true → j ≡ true → ⊥) → CopyHas P (cond j d (cond i (bare a) a)).copy → CopyHas P (cond i (bare (cond j d a)) (cond j d a)).copy
  copy_there d a true j n h = tt
  copy_there d a false true n h = h
  copy_there d a false false n h = h

  -- at another cluster
  there : (i c k : ℕ) (d : LineEffect) (n : List Packet) (s : State) → k ≢ c → Everywhere P (apply i k d n (hide c s)) → Everywhere P (hide c (apply i k d n s))
  there i c k d n s off h = record {
    net = h.net;
    mem = h.mem;
    copy = λ x. copy_there d.cell (s.cells x) (x == c) (x == k) (λ e f. off (sym (is_same x k f) ∙ is_same x c e)) (h.copy x);
    slot = λ x. slot_here d.cell d.cell (s.cells x) (x == c) (x == k) refl (h.slot x);
  }

  shown : (c k : ℕ) (s : State) → k ≢ c → (hide c s).cells k ≡ s.cells k
  shown c k s off = ap (λ b. cond b (bare (s.cells k)) (s.cells k)) (differ k c off)

  hidden : (c : ℕ) (s : State) → (hide c s).cells c ≡ bare (s.cells c)
  hidden c s = ap (λ b. cond b (bare (s.cells c)) (s.cells c)) (same c)

  pub take_hidden : (w : Where) (s : State) (c i k f u : ℕ) (m : Msg) → (s.cells c).acks ≢ NoAcks → head f k (class_of m) s.net ≡ Some (parcel f k m u) → Everywhere P (hide c s) → Everywhere P (hide c (after w s (Takes i k f m)))
  take_hidden w s c i k f u m n first e =
      let step = take_keeps P w (hide c s) i k f u m first e in
      let rest = tail f k (class_of m) s.net in
      elim (same_or_not k c) [
        | inl q ↦ subst (λ y. Everywhere P (hide c (apply i y (take_row w.k w.home y f m (s.cells y) s.home) rest s))) (sym q) (here i c (take_row w.k w.home c f m (bare (s.cells c)) s.home) (take_row w.k w.home c f m (s.cells c) s.home) rest s (take_alike w.k w.home c f m (s.cells c) s.home n) (subst (λ a. Everywhere P (apply i c (take_row w.k w.home c f m a s.home) rest (hide c s))) (hidden c s) (subst (λ y. Everywhere P (apply i y (take_row w.k w.home y f m ((hide c s).cells y) s.home) rest (hide c s))) q step)))
        | inr o ↦ there i c k (take_row w.k w.home k f m (s.cells k) s.home) rest s o (subst (λ a. Everywhere P (apply i k (take_row w.k w.home k f m a s.home) rest (hide c s))) (shown c k s o) step)
      ]

  -- an act of another cluster that commits nothing, or any of the cluster itself
  pub act_hidden : (w : Where) (s : State) (c i k : ℕ) (y : Act) → (s.cells c).acks ≢ NoAcks → MayAct y (s.cells k) → (k ≢ c → (t : ℕ) (d : Line) → y ≡ Commit t d → ⊥) → Everywhere P (hide c s) → Everywhere P (hide c (after w s (Acts i k y)))
  act_hidden w s c i k y n may none e =
      elim (same_or_not k c) [
        | inl q ↦ subst (λ z. Everywhere P (hide c (apply i z (act_row w.line w.home y (s.cells z) s.home) s.net s))) (sym q) (here i c (act_row w.line w.home (stands_for y) (bare (s.cells c)) s.home) (act_row w.line w.home y (s.cells c) s.home) s.net s (act_alike w.line w.home y (s.cells c) s.home (subst (λ z. MayAct y (s.cells z)) q may) n) (subst (λ a. Everywhere P (apply i c (act_row w.line w.home (stands_for y) a s.home) s.net (hide c s))) (hidden c s) (act_keeps P w (hide c s) i c (stands_for y) (λ t d is. absurd (stands_not y t d is)) e)))
        | inr o ↦ there i c k (act_row w.line w.home y (s.cells k) s.home) s.net s o (subst (λ a. Everywhere P (apply i k (act_row w.line w.home y a s.home) s.net (hide c s))) (shown c k s o) (act_keeps P w (hide c s) i k y (λ t d is. absurd (none o t d is)) e))
      ]
