-- Each message that is taken and each act keeps the invariant of its line.
use Rattle.std.proofs.Common.{◌≡◌, ℕ, ◌≤◌, ◌==◌, ◌&&◌, Bool, true, false, cond, Some, refl, sym, ap, subst, arith}
use Rattle.std.proofs.lemmas.Bool.Decides.{nat_tests}
use Rattle.dash_base.specs.declared.id.LineId.{LineId}
use Rattle.dash_base.specs.declared.line.Line.{Line}
use Rattle.dash_base.specs.declared.id.ClusterId.{ClusterId}
use Rattle.dash_msg.specs.declared.classes.Class.TheVariants.{Request}
use Rattle.dash_msg.specs.declared.msg.Msg.{Msg}
use Rattle.dash_msg.specs.declared.msg.Msg.TheVariants.{Read, ReadEx, FwdRead, FwdReadEx, Inval, WriteBack, SharingBack, Transfer, Data, DataEx, Ack, TransferAck, Nak}
use Rattle.dash_model.specs.Net.{parcel, head, tail}
use Rattle.dash_model.specs.Cell.{Copy, Held, Acks, NoAcks, Entry, Uncached, SharedBy, Dirty}
use Rattle.dash_model.specs.LineEffect.{still}
use Rattle.dash_model.specs.Acts.{Act, AskRead, AskOwn, Again, Install, Commit, Evict, Drop, BusRead, BusOwn, evict_row}
use Rattle.dash_model.specs.Requests.{read_row, own_row, give_read, give_own, is_dirty_of, write_back_row, sharing_back_row, transfer_row}
use Rattle.dash_msg.specs.Classes.{class_of}
use Rattle.dash_msg.specs.declared.msg.Msg.TheVariants.{LockAsk, Unlock, LockGrant, UnlockAck}
use Rattle.dash_model.specs.OnLine.{clean, one, gives_back, leaves, gains}
use Rattle.dash_model.proofs.LineState.{State, Where, Acts, Takes, apply, after, MayAct, content_after}
use Rattle.dash_model.proofs.Weigh.{cut}
use Rattle.dash_model.proofs.Facts.{Place, AtHome, At, Back, Moving, Facts, dirty_of, misrouted}
use Rattle.dash_model.proofs.Rows as rows
use Rattle.dash_model.proofs.Contents.{commit}
use Rattle.dash_model.proofs.Steps.{Known, Invariant, Stepped, kept, kept_by, kept_by_two}

-- whether it is a message of a line
abbrev pub IsLineMsg : Msg → Type 0
IsLineMsg (LockAsk h n word v) = ⊥
IsLineMsg (Unlock h n word) = ⊥
IsLineMsg (LockGrant h) = ⊥
IsLineMsg (UnlockAck h old) = ⊥
IsLineMsg m = Unit {0}

-- the invariant with another place
moved : (h : ℕ) (v : Line) (s : State) (p q : Place) → p ≡ q → ((x : ℕ) → Known h v s p x) → (x : ℕ) → Known h v s q x
moved h v s p q e k x = subst (λ r. Known h v s r x) e (k x)

-- where a message that asks the home or tells it comes, is the home
pub routed : (w : Where) (m : Line) (s : State) (c f u : ℕ) (g : Msg) → head f c Request s.net ≡ Some (parcel f c g u) → (misrouted w.home (parcel f c g u) ≡ 0 → c ≡ w.home) → Invariant w.home m s → c ≡ w.home
routed w m s c f u g first h i =
    let less = cut f c Request (parcel f c g u) s.net first (misrouted w.home) in
    let none = (i.known c).facts.requests.routed in
    h (omega arith)

pub at_home_of : (c h f u : ℕ) (l : LineId) → misrouted h (parcel f c (Read l) u) ≡ 0 → c ≡ h
at_home_of c h f u l e = grind (arith, nat_tests)

same_home : (h : ℕ) → (h == h) ≡ true
same_home h = grind (arith, nat_tests)

read_by : (w : Where) (m : Line) (s : State) (i f u : ℕ) (l : LineId) (b : Entry) → s.home.entry ≡ b → head f w.home Request s.net ≡ Some (parcel f w.home (Read l) u) → Invariant w.home m s → Stepped w.home m m s (apply i w.home (read_row l f b (s.cells w.home) s.home) (tail f w.home Request s.net) s)
read_by w m s i f u l Uncached e first inv = kept_by (rows.read_uncached w m s i f u l first e) (moved w.home m s inv.place AtHome (rows.clean_place w s inv.place 0 (ap clean e) (inv.known 0).facts) inv.known)
read_by w m s i f u l (SharedBy cs) e first inv = kept_by (rows.read_shared w m s i f u l cs first e) (moved w.home m s inv.place AtHome (rows.clean_place w s inv.place 0 (ap clean e) (inv.known 0).facts) inv.known)
read_by w m s i f u l (Dirty o) e first inv = kept (rows.read_dirty w m s i f u l inv.place o first) inv.known

own_by : (w : Where) (m : Line) (s : State) (i f u : ℕ) (l : LineId) (b : Entry) → s.home.entry ≡ b → head f w.home Request s.net ≡ Some (parcel f w.home (ReadEx l) u) → Invariant w.home m s → Stepped w.home m m s (apply i w.home (own_row l f b (s.cells w.home) s.home) (tail f w.home Request s.net) s)
own_by w m s i f u l Uncached e first inv = kept_by (rows.own_uncached w m s i f u l first e) (moved w.home m s inv.place AtHome (rows.clean_place w s inv.place 0 (ap clean e) (inv.known 0).facts) inv.known)
own_by w m s i f u l (SharedBy cs) e first inv = kept_by (rows.own_shared w m s i f u l cs first e) (moved w.home m s inv.place AtHome (rows.clean_place w s inv.place 0 (ap clean e) (inv.known 0).facts) inv.known)
own_by w m s i f u l (Dirty o) e first inv = kept (rows.own_dirty w m s i f u l inv.place o first) inv.known

give_read_by : (w : Where) (m : Line) (s : State) (i c f u : ℕ) (l : LineId) (r : ClusterId) (a : Copy) (b : Acks) → (s.cells c).copy ≡ a → (s.cells c).acks ≡ b → head f c Request s.net ≡ Some (parcel f c (FwdRead l r) u) → Invariant w.home m s → Stepped w.home m m s (apply i c (give_read l w.home r.0 a b (s.cells c) s.home) (tail f c Request s.net) s)
give_read_by w m s i c f u l r (Held hs (Some o) d) NoAcks e g first inv = kept_by_two (rows.fwd_read_given w m s i c hs o d e g f u l r first) (moved w.home m s inv.place (At c) (rows.place_owner w s inv.place c hs o d e g (inv.known c).facts) inv.known)
give_read_by w m s i c f u l r _ _ e g first inv = kept_by (rows.fwd_read_refused w m s inv.place i c f u l r first) inv.known

give_own_by : (w : Where) (m : Line) (s : State) (i c f u : ℕ) (l : LineId) (r : ClusterId) (a : Copy) (b : Acks) → (s.cells c).copy ≡ a → (s.cells c).acks ≡ b → head f c Request s.net ≡ Some (parcel f c (FwdReadEx l r) u) → Invariant w.home m s → Stepped w.home m m s (apply i c (give_own l w.home r.0 a b (s.cells c) s.home) (tail f c Request s.net) s)
give_own_by w m s i c f u l r (Held hs (Some o) d) NoAcks e g first inv = kept_by_two (rows.fwd_read_ex_given w m s i c hs o d e g f u l r first) (moved w.home m s inv.place (At c) (rows.place_owner w s inv.place c hs o d e g (inv.known c).facts) inv.known)
give_own_by w m s i c f u l r _ _ e g first inv = kept_by (rows.fwd_read_ex_refused w m s inv.place i c f u l r first) inv.known

-- the entry names who sends the line back, or passes it on
dirty_is : (b : Entry) (f : ℕ) → 1 ≤ dirty_of b f → is_dirty_of f b ≡ true
dirty_is Uncached f e = absurd (omega arith)
dirty_is (SharedBy cs) f e = absurd (omega arith)
dirty_is (Dirty o) f e = grind (arith, nat_tests)

one_same : (f : ℕ) → 1 ≤ one f f
one_same f = grind (arith, nat_tests)

both : (a b : Bool) → a ≡ true → b ≡ true → a && b ≡ true
both true true e f = refl
both true false e f = f
both false b e f = absurd (cc)

came_back : (w : Where) (s : State) (p : Place) (c f u : ℕ) (g : Msg) → head f c Request s.net ≡ Some (parcel f c g u) → gives_back f (parcel f c g u) ≡ one f f → Facts w.home s p f → p ≡ Back f
came_back w s p c f u g first e k =
    let less = cut f c Request (parcel f c g u) s.net first (gives_back f) in
    let some = one_same f in
    rows.back_of w s p f (omega arith) k

back_dirty : (h : ℕ) (s : State) (f : ℕ) → Facts h s (Back f) f → is_dirty_of f s.home.entry ≡ true
back_dirty h s f k =
    let e = k.tokens.entry in
    let some = one_same f in
    dirty_is s.home.entry f (omega arith)

move_dirty : (h : ℕ) (s : State) (f r : ℕ) → Facts h s (Moving f r) f → is_dirty_of f s.home.entry ≡ true
move_dirty h s f r k =
    let e = k.tokens.entry in
    let some = one_same f in
    dirty_is s.home.entry f (omega arith)

pub take_step : (w : Where) (s : State) (m : Line) (i c f u : ℕ) (g : Msg) → IsLineMsg g → head f c (class_of g) s.net ≡ Some (parcel f c g u) → Invariant w.home m s → Stepped w.home m m s (after w s (Takes i c f g))
take_step w s m i c f u (Read l) o first inv =
    let e : c ≡ w.home = routed w m s c f u (Read l) first (λ z. at_home_of c w.home f u l z) inv in
    subst (λ c. Stepped w.home m m s (apply i c (cond (c == w.home) (read_row l f s.home.entry (s.cells c) s.home) (still (s.cells c) s.home)) (tail f c Request s.net) s)) (sym e) (subst (λ b. Stepped w.home m m s (apply i w.home (cond b (read_row l f s.home.entry (s.cells w.home) s.home) (still (s.cells w.home) s.home)) (tail f w.home Request s.net) s)) (sym (same_home w.home)) (read_by w m s i f u l s.home.entry refl (subst (λ c. head f c Request s.net ≡ Some (parcel f c (Read l) u)) e first) inv))
take_step w s m i c f u (ReadEx l) o first inv =
    let e : c ≡ w.home = routed w m s c f u (ReadEx l) first (λ z. at_home_of c w.home f u l z) inv in
    subst (λ c. Stepped w.home m m s (apply i c (cond (c == w.home) (own_row l f s.home.entry (s.cells c) s.home) (still (s.cells c) s.home)) (tail f c Request s.net) s)) (sym e) (subst (λ b. Stepped w.home m m s (apply i w.home (cond b (own_row l f s.home.entry (s.cells w.home) s.home) (still (s.cells w.home) s.home)) (tail f w.home Request s.net) s)) (sym (same_home w.home)) (own_by w m s i f u l s.home.entry refl (subst (λ c. head f c Request s.net ≡ Some (parcel f c (ReadEx l) u)) e first) inv))
take_step w s m i c f u (FwdRead l r) o first inv = give_read_by w m s i c f u l r (s.cells c).copy (s.cells c).acks refl refl first inv
take_step w s m i c f u (FwdReadEx l r) o first inv = give_own_by w m s i c f u l r (s.cells c).copy (s.cells c).acks refl refl first inv
take_step w s m i c f u (Inval l r) o first inv = kept_by_two (rows.inval w m s inv.place i c f u l r first) inv.known
take_step w s m i c f u (WriteBack l d) o first inv =
    let e : c ≡ w.home = routed w m s c f u (WriteBack l d) first (λ z. at_home_of c w.home f u l z) inv in
    let p = came_back w s inv.place c f u (WriteBack l d) first refl (inv.known f).facts in
    let k = moved w.home m s inv.place (Back f) p inv.known in
    let t : (c == w.home) && is_dirty_of f s.home.entry ≡ true = both (c == w.home) (is_dirty_of f s.home.entry) (grind (arith, nat_tests)) (back_dirty w.home s f (k f).facts) in
    subst (λ b. Stepped w.home m m s (apply i c (write_back_row d b (s.cells c) s.home) (tail f c Request s.net) s)) (sym t) (kept_by (rows.write_back w m s i c f u l d first) k)
take_step w s m i c f u (SharingBack l d r) o first inv =
    let e : c ≡ w.home = routed w m s c f u (SharingBack l d r) first (λ z. at_home_of c w.home f u l z) inv in
    let p = came_back w s inv.place c f u (SharingBack l d r) first refl (inv.known f).facts in
    let k = moved w.home m s inv.place (Back f) p inv.known in
    let t : (c == w.home) && is_dirty_of f s.home.entry ≡ true = both (c == w.home) (is_dirty_of f s.home.entry) (grind (arith, nat_tests)) (back_dirty w.home s f (k f).facts) in
    subst (λ b. Stepped w.home m m s (apply i c (sharing_back_row f d r.0 b (s.cells c) s.home) (tail f c Request s.net) s)) (sym t) (kept_by (rows.sharing_back w m s i c f u l d r first) k)
take_step w s m i c f u (Transfer l r) o first inv =
    let e : c ≡ w.home = routed w m s c f u (Transfer l r) first (λ z. at_home_of c w.home f u l z) inv in
    let from = cut f c Request (parcel f c (Transfer l r) u) s.net first (leaves f) in
    let for = cut f c Request (parcel f c (Transfer l r) u) s.net first (gains r.0) in
    let a = one_same f in
    let b = one_same r.0 in
    let p = rows.transfer_of w s inv.place f r.0 (omega arith) (omega arith) (inv.known f).facts (inv.known r.0).facts in
    let k = moved w.home m s inv.place (Moving f r.0) p inv.known in
    let t : (c == w.home) && is_dirty_of f s.home.entry ≡ true = both (c == w.home) (is_dirty_of f s.home.entry) (grind (arith, nat_tests)) (move_dirty w.home s f r.0 (k f).facts) in
    subst (λ b. Stepped w.home m m s (apply i c (transfer_row l r.0 b (s.cells c) s.home) (tail f c Request s.net) s)) (sym t) (kept_by_two (rows.transfer w m s i c f u l r first) k)
take_step w s m i c f u (Data l d) o first inv = kept_by (rows.data_comes w m s inv.place i c f u l d first) inv.known
take_step w s m i c f u (DataEx l d n) o first inv = kept_by (rows.data_ex w m s inv.place i c f u l d n first) inv.known
take_step w s m i c f u (Ack l) o first inv = kept_by (rows.ack w m s inv.place i c f u l first) inv.known
take_step w s m i c f u (TransferAck l) o first inv = kept_by (rows.transfer_ack w m s inv.place i c f u l first) inv.known
take_step w s m i c f u (Nak l) o first inv = kept_by (rows.nak w m s inv.place i c f u l first) inv.known
take_step w s m i c f u (LockAsk h n word v) o first inv = absurd o
take_step w s m i c f u (Unlock h n word) o first inv = absurd o
take_step w s m i c f u (LockGrant h) o first inv = absurd o
take_step w s m i c f u (UnlockAck h old) o first inv = absurd o

-- a cluster that does nothing to its line
idle : (w : Where) (m : Line) (s : State) (i c : ℕ) → Invariant w.home m s → Stepped w.home m m s (apply i c (still (s.cells c) s.home) s.net s)
idle w m s i c inv = kept (rows.idle w m s inv.place i c) inv.known

evict_by : (w : Where) (m : Line) (s : State) (i c : ℕ) (a : Copy) → (s.cells c).copy ≡ a → (s.cells c).acks ≡ NoAcks → Invariant w.home m s → Stepped w.home m m s (apply i c (evict_row w.line w.home a (s.cells c) s.home) s.net s)
evict_by w m s i c (Held hs (Some o) d) e g inv = kept_by (rows.evict w m s i c hs o d e g) (moved w.home m s inv.place (At c) (rows.place_owner w s inv.place c hs o d e g (inv.known c).facts) inv.known)
evict_by w m s i c _ e g inv = idle w m s i c inv

pub act_step : (w : Where) (s : State) (m : Line) (i c : ℕ) (a : Act) → MayAct a (s.cells c) → Invariant w.home m s → Stepped w.home m (content_after m a) s (after w s (Acts i c a))
act_step w s m i c (AskRead n t) may inv = kept_by (rows.ask_read w m s inv.place i c n t may) inv.known
act_step w s m i c (AskOwn n t) may inv = kept_by (rows.ask_own w m s inv.place i c n t may) inv.known
act_step w s m i c Again may inv = kept_by (rows.again w m s inv.place i c) inv.known
act_step w s m i c Install may inv = kept_by (rows.install w m s inv.place i c) inv.known
act_step w s m i c (Commit t d) may inv = record {
  invariant = record {
    place = inv.place;
    known = λ x. record {
      facts = rows.commit_facts w m s inv.place i c t x d (inv.known x).facts (inv.known c).facts;
      covered = rows.commit_cover w m s inv.place i c t x d (inv.known x).facts (inv.known c).facts (inv.known x).covered;
      contents = commit w s inv.place i c t x d may (inv.known x).facts (inv.known c).facts (inv.known x).covered;
    };
  };
  reading = λ b now x. rows.commit_reading w m s inv.place i c t x d b;
}
act_step w s m i c (Evict t) may inv = evict_by w m s i c (s.cells c).copy refl may inv
act_step w s m i c (Drop t) may inv = kept_by (rows.drop w m s inv.place i c t may) inv.known
act_step w s m i c (BusRead t) may inv = kept_by (rows.bus_read w m s inv.place i c t) inv.known
act_step w s m i c (BusOwn t) may inv = kept_by (rows.bus_own w m s inv.place i c t) inv.known
