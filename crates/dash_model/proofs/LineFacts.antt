-- The facts of a line follow from its invariant.
use Rattle.std.proofs.Common.{◌≡◌, ◌≢◌, ◌⊎◌, ℕ, ◌+◌, ◌≤◌, ◌<◌, ◌==◌, Bool, true, false, cond, Option, None, Some, List, [], ◌∷◌, refl, sym, ap, ◌∙◌, subst, inl, inr, arith}
use Rattle.std.proofs.lemmas.Bool.Decides.{nat_tests}
use Rattle.dash_base.specs.declared.id.ClusterId.{ClusterId}
use Rattle.dash_base.specs.declared.id.LineId.{LineId}
use Rattle.dash_base.specs.declared.line.Line.{Line}
use Rattle.dash_msg.specs.declared.msg.Msg.{Msg}
use Rattle.dash_msg.specs.declared.msg.Msg.TheVariants.{Inval, WriteBack, SharingBack, Transfer, Data, DataEx}
use Rattle.dash_event.specs.declared.event.Event.{Event}
use Rattle.dash_model.specs.Maps.{weigh, member}
use Rattle.dash_model.specs.Config.{Config, lines, home_of}
use Rattle.dash_model.specs.Net.{Packet}
use Rattle.dash_model.specs.OnLine.{one, on, clean, reads, datas, wants, brings, gives_back, leaves, gains, invals, invals_at, counts_to, shares, passes, gains_msg, leaves_msg, passes_msg, invals_msg}
use Rattle.dash_model.specs.Cell.{Copy, NoCopy, Held, Asked, Poisoned, Came, Refused, Slot, NoSlot, Reads, Owns, Acks, NoAcks, Counting, Expects, Entry, Uncached, SharedBy, Dirty}
use Rattle.dash_model.specs.Machine.{Machine, Reaches}
use Rattle.dash_model.specs.LineFacts.{IsOnItsWay, IsCurrent, InMemory, tokens_at, Token, tokens_for, IsOwnedBy, ThereOrComing, Returning, Passed, waiting_slots, IsReading, IsOwning, CountsAdd, HasThing, ByCopy, BySlot, ByData, IsInvalidated, IsMarked, Carries, NoneIsNewer, IsCovered, ByToken, ByMark, BySharing, ByInval, LineFacts}
use Rattle.dash_model.proofs.LineState.{State}
use Rattle.dash_model.proofs.Facts.{Place, AtHome, At, Back, Moving, Facts, Cover, Contents, Counted, counting, own_invals, own_invals_msg, is_reading as slot_reads, holds, at_home, dirty_of, owner_in, marked, things, held, came_read, asked, other, owner_off, came_off, old_brings, old_backs, old_brings_msg, old_backs_msg, waits_read, waits_own, shared_weight, read_weight, datas_weight, datas_weight_msg, NoneToRead}
use Rattle.dash_model.proofs.Contents.{off_not, owner_current}
use Rattle.dash_model.proofs.Steps.{Invariant}
use Rattle.dash_model.proofs.OnNet.{AllOf}
use Rattle.dash_model.proofs.Everywhere.{CopyHas, SlotHas, MsgHas, Everywhere, NotNewer}
use Rattle.dash_model.proofs.Lift.{Holds}
use Rattle.dash_model.specs.History.{version_of}
use Rattle.dash_model.proofs.OneToken.{weigh_at, routed, sent_home, not_astray, all_home, pass_home, returning, one_self, one_not, one_token}
use Rattle.dash_model.proofs.Along.{along, same_or_not}
use Rattle.dash_model.proofs.Told.{current}
use Rattle.dash_model.proofs.Reached.{each_reached}

-- contents
memory_is : (p : Place) (v d : Line) (a : ℕ) → a ≡ at_home p → (at_home p ≡ 0) ⊎ (other v d ≡ 0) → a ≡ 1 → d ≡ v
memory_is p v d a e (inl z) f = absurd (omega arith)
memory_is p v d a e (inr g) f = off_not v d g

slot_is : (s : Slot) (n h : ℕ) (d v : Line) (r : ℕ) → s ≡ Owns n h (Came d) → r + came_off s v ≡ 0 → d ≡ v
slot_is s n h d v r e f = let g : r + other v d ≡ 0 = subst (λ s. r + came_off s v ≡ 0) e f in off_not v d (omega arith)

if_same : (c n : ℕ) → cond (c == c) n 0 ≡ n
if_same c n = let e : (c == c) ≡ true = grind (arith, nat_tests) in ap (λ b. cond b n 0) e

coming_is : (net : List Packet) (v : Line) (q : Packet) (k : LineId) (d : Line) (n : ℕ) → weigh (old_brings v q.dst) net ≡ 0 → IsOnItsWay q net → q.msg ≡ DataEx k d n → d ≡ v
coming_is net v q k d n z at e =
    let some = weigh_at (old_brings v q.dst) net q at in
    let same : old_brings v q.dst q ≡ other v d = ap (λ m. old_brings_msg v q.dst q.src q.dst m) e ∙ if_same q.dst (other v d) in
    off_not v d (omega arith)

returning_is : (net : List Packet) (v : Line) (q : Packet) (k : LineId) (d : Line) → weigh (old_backs v q.src) net ≡ 0 → IsOnItsWay q net → q.msg ≡ WriteBack k d → d ≡ v
returning_is net v q k d z at e =
    let some = weigh_at (old_backs v q.src) net q at in
    let same : old_backs v q.src q ≡ other v d = ap (λ m. old_backs_msg v q.src q.src q.dst m) e ∙ if_same q.src (other v d) in
    off_not v d (omega arith)

sharing_is : (net : List Packet) (v : Line) (q : Packet) (k : LineId) (d : Line) (r : ClusterId) → weigh (old_backs v q.src) net ≡ 0 → IsOnItsWay q net → q.msg ≡ SharingBack k d r → d ≡ v
sharing_is net v q k d r z at e =
    let some = weigh_at (old_backs v q.src) net q at in
    let same : old_backs v q.src q ≡ other v d = ap (λ m. old_backs_msg v q.src q.src q.dst m) e ∙ if_same q.src (other v d) in
    off_not v d (omega arith)

pub token : (w : Config) (log : List Event) (l : ℕ) (v : Line) (m : Machine) → IsCurrent w log l v → Invariant (home_of w l) v (along w l m) → Token w log l m
token w log l v m is i =
    let t = one_token w l m i.place (λ x. (i.known x).facts) in
    let current : (d : Line) → d ≡ v → IsCurrent w log l d = λ d e. subst (IsCurrent w log l) (sym e) is in
    record {
      holder = t.holder;
      there = t.there;
      alone = t.alone;
      memory = λ e. current (along w l m).home.mem (memory_is i.place v (along w l m).home.mem (tokens_at w l m InMemory) (i.known 0).facts.tokens.home (i.known 0).contents.mem e);
      owner = λ c hs o d e. current d (owner_current hs o d ((along w l m).cells c).copy v (came_off ((along w l m).cells c).slot v) e (i.known c).contents.owner);
      slot = λ c n h d e. current d (slot_is ((along w l m).cells c).slot n h d v (owner_off ((along w l m).cells c).copy v) e (i.known c).contents.owner);
      coming = λ q k d count at e. current d (coming_is (on l m.net) v q k d count (i.known q.dst).contents.brought at e);
      returning = λ q k d at e. current d (returning_is (on l m.net) v q k d (i.known q.src).contents.given at e);
      sharing = λ q k d r at e. current d (sharing_is (on l m.net) v q k d r (i.known q.src).contents.given at e);
    }

-- the entry
passed_on : (o r a b : ℕ) (m : Msg) → ((y : ℕ) → y ≢ r → gains_msg y a b m ≡ 0) → passes_msg o r a b m ≡ leaves_msg o a b m
passed_on o r a b (Transfer l x) f = elim (same_or_not x.0 r) [
  | inl e ↦ grind (arith, nat_tests)
  | inr n ↦ absurd (let z = f x.0 n in let s = one_self x.0 in omega arith)
]
passed_on o r a b _ f = refl

passes_leaves : (o r : ℕ) (net : List Packet) → ((y : ℕ) → y ≢ r → weigh (gains y) net ≡ 0) → weigh (passes o r) net ≡ weigh (leaves o) net
unfolding weigh
passes_leaves o r [] f = refl
passes_leaves o r (p ∷ ps) f = let ih = passes_leaves o r ps (λ y n. let e = f y n in omega arith) in let here = passed_on o r p.src p.dst p.msg (λ y n. let e = f y n in omega arith) in omega arith

dirty_clean : (o : ℕ) (e : Entry) → e ≡ Dirty o → clean e ≡ 1 → ⊥
dirty_clean o e f g = let h : clean (Dirty o) ≡ 1 = subst (λ e. clean e ≡ 1) f g in omega arith

same_owner : (o q : ℕ) (e : Entry) → e ≡ Dirty o → dirty_of e q ≡ one q q → one q o ≡ 1
same_owner o q e f g = let h : one o q ≡ one q q = subst (λ e. dirty_of e q ≡ one q q) f g in grind (arith, nat_tests)

owned_by : (w : Config) (l : ℕ) (m : Machine) (o : ℕ) (p : Place) → ((x : ℕ) → Facts (home_of w l) (along w l m) p x) → (along w l m).home.entry ≡ Dirty o → IsOwnedBy w l m o
owned_by w l m o AtHome k e = absurd (dirty_clean o (along w l m).home.entry e (k 0).tokens.home)
owned_by w l m o (At q) k e = ThereOrComing ((k o).tokens.token ∙ same_owner o q (along w l m).home.entry e (k q).tokens.entry)
owned_by w l m o (Back q) k e = Returning (returning w l m (Back q) k o ∙ same_owner o q (along w l m).home.entry e (k q).tokens.entry)
owned_by w l m o (Moving q r) k e = Passed r (all_home (home_of w l) (passes o r) (λ q e. pass_home (home_of w l) o r q.src q.dst q.msg e) (on l m.net) (k 0).requests.routed ∙ passes_leaves o r (on l m.net) (λ y n. (k y).tokens.gaining ∙ one_not r y n) ∙ (k o).tokens.leaving ∙ same_owner o q (along w l m).home.entry e (k q).tokens.entry) ((k r).tokens.token ∙ one_self r)

clean_home : (w : Config) (l : ℕ) (m : Machine) (p : Place) → ((x : ℕ) → Facts (home_of w l) (along w l m) p x) → clean (along w l m).home.entry ≡ 1 → (c : ℕ) → (tokens_for l m c ≡ 0) × (weigh (gives_back c) (on l m.net) ≡ 0)
clean_home w l m AtHome k e c = ((k c).tokens.token, (k c).tokens.back)
clean_home w l m (At o) k e c = absurd (let h = (k c).tokens.home in omega arith)
clean_home w l m (Back o) k e c = absurd (let h = (k c).tokens.home in omega arith)
clean_home w l m (Moving o r) k e c = absurd (let h = (k c).tokens.home in omega arith)

-- requests and counts
waits : (s : Slot) (k : Acks) (a d h : ℕ) → Counted s k a d h → waits_read s + waits_own s ≡ waiting_slots s
waits NoSlot k a d h e = refl
waits (Reads n t Asked) k a d h e = refl
waits (Reads n t Poisoned) k a d h e = refl
waits (Reads n t Refused) k a d h e = refl
waits (Reads n t (Came x)) k a d h e = refl
waits (Owns n t Asked) k a d h e = refl
waits (Owns n t Poisoned) k a d h e = absurd e
waits (Owns n t Refused) k a d h e = refl
waits (Owns n t (Came x)) k a d h e = refl

is_reading : (s : Slot) → 1 ≤ waits_read s → IsReading s
is_reading (Reads n t x) e = tt
is_reading NoSlot e = absurd (omega arith)
is_reading (Owns n t x) e = absurd (omega arith)

is_owning : (s : Slot) → 1 ≤ waits_own s → IsOwning s
is_owning (Owns n t x) e = tt
is_owning NoSlot e = absurd (omega arith)
is_owning (Reads n t x) e = absurd (omega arith)

pub answer : (h : ℕ) (s : State) (p : Place) (c : ℕ) → Facts h s p c → (waits_read (s.cells c).slot + waits_own (s.cells c).slot ≡ waiting_slots (s.cells c).slot) × ((1 ≤ weigh (reads c) s.net + weigh (datas c) s.net → IsReading (s.cells c).slot) × (1 ≤ weigh (wants c) s.net + weigh (brings c) s.net → IsOwning (s.cells c).slot))
answer h s p c k = (waits (s.cells c).slot (s.cells c).acks (counting c s) (weigh (counts_to c) s.net) (holds p c) k.counts, (λ e. is_reading (s.cells c).slot (let f = k.requests.read in omega arith), λ e. is_owning (s.cells c).slot (let f = k.requests.own in omega arith)))

none_counting : (s : Slot) (a d h : ℕ) → Counted s NoAcks a d h → (a ≡ 0) × (d ≡ 0)
none_counting (Owns n t Asked) a d h e = absurd e
none_counting (Owns n t Refused) a d h e = absurd e
none_counting (Owns n t Poisoned) a d h e = absurd e
none_counting (Owns n t (Came x)) a d h e = e
none_counting NoSlot a d h e = e
none_counting (Reads n t x) a d h e = e

first_counting : (s : Slot) (a d h g : ℕ) (o : List ℕ) → Counted s (Counting g o) a d h → g + a ≡ d
first_counting (Owns n t Asked) a d h g o e = e
first_counting (Owns n t Refused) a d h g o e = e.0 ∙ sym e.1
first_counting (Owns n t Poisoned) a d h g o e = absurd e
first_counting (Owns n t (Came x)) a d h g o e = absurd e
first_counting NoSlot a d h g o e = absurd e
first_counting (Reads n t x) a d h g o e = absurd e

expecting : (s : Slot) (a d h m g : ℕ) (o : List ℕ) → Counted s (Expects m g o) a d h → (g + a ≡ m) × (g < m) × (d ≡ 0) × (h ≡ 1)
expecting (Owns n t Asked) a d h m g o e = absurd e
expecting (Owns n t Refused) a d h m g o e = absurd e
expecting (Owns n t Poisoned) a d h m g o e = absurd e
expecting (Owns n t (Came x)) a d h m g o e = e
expecting NoSlot a d h m g o e = e
expecting (Reads n t x) a d h m g o e = e

adds : (s : Slot) (k : Acks) (a d h : ℕ) → Counted s k a d h → CountsAdd k a d
adds s NoAcks a d h e = none_counting s a d h e
adds s (Counting g o) a d h e = first_counting s a d h g o e
adds s (Expects m g o) a d h e = let x = expecting s a d h m g o e in (x.0, x.1, x.2)

owns : (s : Slot) (k : Acks) (a d h m g : ℕ) (o : List ℕ) → k ≡ Expects m g o → Counted s k a d h → h ≡ 1
owns s k a d h m g o is e = (expecting s a d h m g o (subst (λ z. Counted s z a d h) is e)).3

-- stale contents
shared_by : (s : State) (v : Line) (c : ℕ) (hs : List ℕ) (d : Line) → (s.cells c).copy ≡ Held hs None d → (1 ≤ weigh (invals_at c) s.net) ⊎ NoneToRead (other v) s c → (d ≡ v) ⊎ (1 ≤ weigh (invals_at c) s.net)
shared_by s v c hs d e (inl i) = inr i
shared_by s v c hs d e (inr z) = let f : shared_weight (other v) (s.cells c).copy ≡ other v d = ap (λ x. shared_weight (other v) x) e in inl (off_not v d (omega arith))

stale_copy : (s : State) (v : Line) (c : ℕ) (p : Place) (hs : List ℕ) (o : Option ℕ) (d : Line) → (s.cells c).copy ≡ Held hs o d → Contents s p v c → (d ≡ v) ⊎ (1 ≤ weigh (invals_at c) s.net)
stale_copy s v c p hs (Some o) d e k = inl (owner_current hs o d (s.cells c).copy v (came_off (s.cells c).slot v) e k.owner)
stale_copy s v c p hs None d e k = shared_by s v c hs d e k.fresh

stale_slot : (s : State) (v : Line) (c n h : ℕ) (d : Line) → (s.cells c).slot ≡ Reads n h (Came d) → (1 ≤ weigh (invals_at c) s.net) ⊎ NoneToRead (other v) s c → (d ≡ v) ⊎ (1 ≤ weigh (invals_at c) s.net)
stale_slot s v c n h d e (inl i) = inr i
stale_slot s v c n h d e (inr z) = let f : read_weight (other v) (s.cells c).slot ≡ other v d = ap (λ x. read_weight (other v) x) e in inl (off_not v d (omega arith))

stale_data : (s : State) (v : Line) (c n h : ℕ) (q : Packet) (k : LineId) (d : Line) → (s.cells c).slot ≡ Reads n h Asked → IsOnItsWay q s.net → q.dst ≡ c → q.msg ≡ Data k d → (1 ≤ weigh (invals_at c) s.net) ⊎ NoneToRead (other v) s c → (d ≡ v) ⊎ (1 ≤ weigh (invals_at c) s.net)
stale_data s v c n h q k d e at t g (inl i) = inr i
stale_data s v c n h q k d e at t g (inr z) =
    let some = weigh_at (datas_weight (other v) c) s.net q at in
    let same : datas_weight (other v) c q ≡ other v d = ap (λ m. datas_weight_msg (other v) c q.src q.dst m) g ∙ ap (λ b. cond (b == c) (other v d) 0) t ∙ if_same c (other v d) in
    let wait : asked (s.cells c).slot (weigh (datas_weight (other v) c) s.net) ≡ weigh (datas_weight (other v) c) s.net = ap (λ x. asked x (weigh (datas_weight (other v) c) s.net)) e in
    inl (off_not v d (omega arith))

-- coverage
mark_by : (c : ℕ) (cs : List ℕ) (b : Bool) → member c cs ≡ b → 1 ≤ cond b 1 0 → member c cs ≡ true
mark_by c cs true e i = e
mark_by c cs false e i = absurd (omega arith)

no_mark : (c : ℕ) (e : Entry) → 1 ≤ marked c e → IsMarked c e
no_mark c Uncached i = absurd (omega arith)
no_mark c (SharedBy cs) i = mark_by c cs (member c cs) refl i
no_mark c (Dirty o) i = absurd (omega arith)

some_of : (a b c : ℕ) → 1 ≤ a + b + c → (1 ≤ a) ⊎ ((1 ≤ b) ⊎ (1 ≤ c))
some_of a b c e = grind arith

held_some : (k : Copy) (a b : ℕ) → k ≢ NoCopy → 1 ≤ held k + a + b
held_some NoCopy a b n = absurd (n refl)
held_some (Held hs o d) a b n = omega arith

some_thing : (w : Config) (l : ℕ) (m : Machine) (c : ℕ) → HasThing l m c → 1 ≤ things (along w l m) c
some_thing w l m c (ByCopy n) = held_some ((along w l m).cells c).copy (came_read ((along w l m).cells c).slot) (asked ((along w l m).cells c).slot (weigh (datas c) (on l m.net))) n
some_thing w l m c (BySlot n h d e) = let f : came_read ((along w l m).cells c).slot ≡ 1 = ap came_read e in omega arith
some_thing w l m c (ByData n h e i) = let f : asked ((along w l m).cells c).slot (weigh (datas c) (on l m.net)) ≡ weigh (datas c) (on l m.net) = ap (λ x. asked x (weigh (datas c) (on l m.net))) e in omega arith

covered_by : (w : Config) (l : ℕ) (m : Machine) (c : ℕ) → (1 ≤ marked c (along w l m).home.entry) ⊎ ((1 ≤ weigh (shares c) (on l m.net)) ⊎ (1 ≤ weigh (invals_at c) (on l m.net))) → IsCovered w l m c
covered_by w l m c (inl i) = ByMark (no_mark c (along w l m).home.entry i)
covered_by w l m c (inr (inl i)) = BySharing i
covered_by w l m c (inr (inr i)) = ByInval i

covered : (w : Config) (l : ℕ) (m : Machine) (p : Place) (c : ℕ) → Facts (home_of w l) (along w l m) p c → Cover (along w l m) p c → HasThing l m c → IsCovered w l m c
covered w l m p c k (inl e) t = ByToken (k.tokens.token ∙ e)
covered w l m p c k (inr (inl z)) t = absurd (let s = some_thing w l m c t in omega arith)
covered w l m p c k (inr (inr s)) t = covered_by w l m c (some_of (marked c (along w l m).home.entry) (weigh (shares c) (on l m.net)) (weigh (invals_at c) (on l m.net)) s)

-- one epoch
pub inval_weighs : (net : List Packet) (q : Packet) (k : LineId) (r : ClusterId) → IsOnItsWay q net → q.msg ≡ Inval k r → 1 ≤ weigh (invals r.0) net
inval_weighs net q k r at e =
    let some = weigh_at (invals r.0) net q at in
    let same : invals r.0 q ≡ one r.0 r.0 = ap (λ m. invals_msg r.0 q.src q.dst m) e in
    let self = one_self r.0 in
    omega arith

dirty_entry : (e : Entry) (r : ℕ) → 1 ≤ dirty_of e r → e ≡ Dirty r
dirty_entry Uncached r i = absurd (omega arith)
dirty_entry (SharedBy cs) r i = absurd (omega arith)
dirty_entry (Dirty o) r i = let f : o ≡ r = grind (arith, nat_tests) in ap Dirty f

epoch_by : (h : ℕ) (s : State) (p : Place) (r : ℕ) → Facts h s p r → 1 ≤ weigh (invals r) s.net → (weigh (invals r) s.net ≡ 0) ⊎ (p ≡ At r) → s.home.entry ≡ Dirty r
epoch_by h s p r f i (inl z) = absurd (omega arith)
epoch_by h s p r f i (inr e) = dirty_entry s.home.entry r (let g : dirty_of s.home.entry r ≡ one r r = f.tokens.entry ∙ ap (λ p. owner_in p r) e in let self = one_self r in omega arith)

epoch_entry : (h : ℕ) (s : State) (p : Place) (q : Packet) (k : LineId) (r : ClusterId) → Facts h s p r.0 → IsOnItsWay q s.net → q.msg ≡ Inval k r → s.home.entry ≡ Dirty r.0
epoch_entry h s p q k r f at e = epoch_by h s p r.0 f (inval_weighs s.net q k r at e) f.epoch.one_owner

epoch_acks : (h : ℕ) (s : State) (p : Place) (q : Packet) (k : LineId) (r : ClusterId) → Facts h s p r.0 → IsOnItsWay q s.net → q.msg ≡ Inval k r → (s.cells r.0).acks ≢ NoAcks
epoch_acks h s p q k r f at e z =
    let some = inval_weighs s.net q k r at e in
    let none = (none_counting (s.cells r.0).slot (counting r.0 s) (weigh (counts_to r.0) s.net) (holds p r.0) (subst (λ a. Counted (s.cells r.0).slot a (counting r.0 s) (weigh (counts_to r.0) s.net) (holds p r.0)) z f.counts)).0 in
    omega arith

epoch_others : (h : ℕ) (s : State) (p : Place) (q : Packet) (k : LineId) (r : ClusterId) → Facts h s p r.0 → IsOnItsWay q s.net → q.msg ≡ Inval k r → q.dst ≢ r.0
epoch_others h s p q k r f at e z =
    let some = weigh_at (own_invals r.0) s.net q at in
    let none = f.epoch.others in
    let self = one_self r.0 in
    let same : own_invals r.0 q ≡ one r.0 r.0 = ap (own_invals_msg r.0 q.src q.dst) e ∙ ap (λ b. cond (b == r.0) (one r.0 r.0) 0) z ∙ if_same r.0 (one r.0 r.0) in
    omega arith

-- a slot reads only where there is no copy
none_held : (c : Copy) (n : ℕ) → n ≡ 1 → n + held c ≤ 1 → c ≡ NoCopy
none_held NoCopy n e f = refl
none_held (Held hs o d) n e f = absurd (omega arith)

no_copy : (s : Slot) (c : Copy) → slot_reads s + held c ≤ 1 → IsReading s → c ≡ NoCopy
no_copy (Reads n t x) c e f = none_held c 1 refl e
no_copy NoSlot c e f = absurd f
no_copy (Owns n t x) c e f = absurd f

-- what is the invariant's content is current
current_or : (w : Config) (log : List Event) (l : ℕ) (v d : Line) (P : Type 0) → IsCurrent w log l v → (d ≡ v) ⊎ P → IsCurrent w log l d ⊎ P
current_or w log l v d P is (inl e) = inl (subst (IsCurrent w log l) (sym e) is)
current_or w log l v d P is (inr p) = inr p

-- no content is newer
all_at : (Q : Packet → Type 0) (net : List Packet) (q : Packet) → AllOf Q net → IsOnItsWay q net → Q q
all_at Q [] q all at = absurd at
all_at Q (p ∷ ps) q all (inl e) = subst Q (sym e) all.0
all_at Q (p ∷ ps) q all (inr i) = all_at Q ps q all.1 i

pub carried_has : (P : Line → Type 0) (m : Msg) (d : Line) → Carries m d → MsgHas P m → P d
carried_has P (WriteBack l x) d e h = subst P e h
carried_has P (SharingBack l x r) d e h = subst P e h
carried_has P (Data l x) d e h = subst P e h
carried_has P (DataEx l x n) d e h = subst P e h
carried_has P _ d e h = absurd e

none_is_newer : (w : Config) (log : List Event) (l : ℕ) (v : Line) (m : Machine) → v.version ≡ version_of log l → Everywhere (NotNewer v) (along w l m) → NoneIsNewer w log l m
none_is_newer w log l v m is e =
    let at_most : (d : Line) → NotNewer v d → d.version ≤ version_of log l = λ d less. omega arith in
    record {
      memory = at_most (along w l m).home.mem e.mem;
      copies = λ c hs o d at. at_most d (subst (CopyHas (NotNewer v)) at (e.copy c));
      to_read = λ c n h d at. at_most d (subst (SlotHas (NotNewer v)) at (e.slot c));
      to_own = λ c n h d at. at_most d (subst (SlotHas (NotNewer v)) at (e.slot c));
      messages = λ q d at of. at_most d (carried_has (NotNewer v) q.msg d of (all_at (λ p. MsgHas (NotNewer v) p.msg) (on l m.net) q e.net at));
    }

facts : (w : Config) (log : List Event) (l : ℕ) (v : Line) (m : Machine) → IsCurrent w log l v → Holds w l v m → LineFacts w log l m
facts w log l v m is known = let i = known.invariant in record {
  token = token w log l v m is i;
  entry = record {
    clean_at_home = clean_home w l m i.place (λ x. (i.known x).facts);
    names = λ o e. owned_by w l m o i.place (λ x. (i.known x).facts) e;
  };
  routes = record {
    to_home = λ q at f. routed (home_of w l) q q.msg (not_astray (home_of w l) (on l m.net) q (i.known 0).facts.requests.routed at) f;
    from_home = λ q at f. sent_home (home_of w l) q q.msg (not_astray (home_of w l) (on l m.net) q (i.known 0).facts.requests.routed at) f;
  };
  requests = λ c. let a = answer (home_of w l) (along w l m) i.place c (i.known c).facts in record { one_each = (i.known c).facts.requests.all ∙ a.0; to_read = a.1.0; to_own = a.1.1; reading = no_copy ((along w l m).cells c).slot ((along w l m).cells c).copy (i.known c).facts.requests.reading };
  counts = λ c. record {
    adds = adds ((along w l m).cells c).slot ((along w l m).cells c).acks (counting c (along w l m)) (weigh (counts_to c) (on l m.net)) (holds i.place c) (i.known c).facts.counts;
    owns = λ n g o is. (i.known c).facts.tokens.token ∙ owns ((along w l m).cells c).slot ((along w l m).cells c).acks (counting c (along w l m)) (weigh (counts_to c) (on l m.net)) (holds i.place c) n g o is (i.known c).facts.counts;
  };
  stale = λ c. record {
    copy = λ hs o d e. current_or w log l v d (IsInvalidated l m c) is (stale_copy (along w l m) v c i.place hs o d e (i.known c).contents);
    slot = λ n h d e. current_or w log l v d (IsInvalidated l m c) is (stale_slot (along w l m) v c n h d e (i.known c).contents.fresh);
    coming = λ n h q k d e at t g. current_or w log l v d (IsInvalidated l m c) is (stale_data (along w l m) v c n h q k d e at t g (i.known c).contents.fresh);
  };
  coverage = λ c t. covered w l m i.place c (i.known c).facts (i.known c).covered t;
  one_epoch = record {
    entry = λ q k r at e. epoch_entry (home_of w l) (along w l m) i.place q k r (i.known r.0).facts at e;
    acks = λ q k r at e. epoch_acks (home_of w l) (along w l m) i.place q k r (i.known r.0).facts at e;
    others = λ q k r at e. epoch_others (home_of w l) (along w l m) i.place q k r (i.known r.0).facts at e;
  };
  newest = none_is_newer w log l v m is.version known.newest;
}

pub runs_keep_lines : (w : Config) (log : List Event) (m : Machine) (l : ℕ) → l < lines w → Reaches w log m → LineFacts w log l m
runs_keep_lines w log m l i r = let k = each_reached w log m l i r in facts w log l k.content m (current w log l k.content k.told) k.holds
