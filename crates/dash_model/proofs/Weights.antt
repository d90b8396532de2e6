-- The rows of a line by weights: what a message that is taken, an Install or an Evict leaves and sends weighs less than what was there, and asks for no line.
use Rattle.std.proofs.Common.{◌≡◌, ℕ, suc, ◌+◌, ◌*◌, ◌≤◌, ◌<◌, ◌==◌, ◌&&◌, ◌||◌, Bool, true, false, not, cond, nat_lt, None, Some, List, [], ◌∷◌, ◌++◌, length, refl, sym, ap, ◌∙◌, arith}
use Rattle.dash_base.specs.declared.line.Line.{Line}
use Rattle.dash_base.specs.declared.id.ClusterId.{ClusterId}
use Rattle.dash_base.specs.declared.id.LineId.{LineId}
use Rattle.dash_msg.specs.declared.msg.Msg.{Msg}
use Rattle.dash_msg.specs.declared.msg.Msg.TheVariants.{Read, ReadEx, FwdRead, FwdReadEx, Inval, WriteBack, SharingBack, Transfer, Data, DataEx, Ack, TransferAck, Nak}
use Rattle.dash_msg.specs.declared.parcel.Sent.{Sent}
use Rattle.dash_model.specs.Maps.{weigh, member, without}
use Rattle.dash_model.specs.Config.{cluster_id}
use Rattle.dash_model.specs.Net.{to}
use Rattle.dash_model.specs.Cell.{Copy, NoCopy, Held, Asked, Poisoned, Came, Refused, Slot, NoSlot, Reads, Owns, Acks, NoAcks, Entry, Uncached, SharedBy, Dirty, Cell, Home}
use Rattle.dash_model.specs.LineEffect.{LineEffect, is_owner}
use Rattle.dash_model.specs.Requests.{read_row, own_row, invals_to, give_read, give_own, poison, is_dirty_of, write_back_row, sharing_back_row, transfer_row}
use Rattle.dash_model.specs.Replies.{arrive, arrive_own, nak_slot}
use Rattle.dash_model.specs.Acts.{Evict, Drop, install_row, evict_row, shrunk, drop_hart, act_row}
use Rattle.dash_model.specs.HartRows.{evict_act}
use Rattle.dash_model.specs.Words.{held_by}
use Rattle.dash_model.specs.LineGuards.{HasCome}
use Rattle.dash_model.specs.LineRows.{take_row}
use Rattle.dash_model.specs.Weight.{msg_weight, slot_weight, copy_weight, cell_weight}
use Rattle.dash_model.specs.Settling.{HasAsked, AsksForLine}
use Rattle.dash_model.proofs.Tests.{is_same}
use Rattle.dash_model.proofs.OnNet.{AllSent}
use Rattle.dash_model.proofs.EntryBounds.{strict-length, EntryBounded}
use Rattle.dash_model.proofs.Bounds.{without-length}

-- messages that are sent, in a machine of n clusters
abbrev pub sent_weight : ℕ → List Sent → ℕ
sent_weight n ss = weigh (λ (s : Sent). msg_weight n s.msg) ss

-- none of them asks for a line
abbrev pub NoneAsks : List Sent → Type 0
NoneAsks = AllSent (λ s. AsksForLine s.msg → ⊥)

-- a row that takes what weighs k, at a cluster with this cell
pub record LightensLine (n k : ℕ) (a : Cell) (d : LineEffect) : Type 0 where
  pub less : sent_weight n d.sent + cell_weight d.cell < k + cell_weight a
  pub slot : HasAsked d.cell.slot → a.slot ≡ d.cell.slot
  pub sent : NoneAsks d.sent

read_light : (n : ℕ) (l : LineId) (f : ℕ) (e : Entry) (a : Cell) (b : Home) → LightensLine n (msg_weight n (Read l)) a (read_row l f e a b)
unfolding weigh
read_light n l f Uncached a b = record { less = omega arith; slot = λ t. refl; sent = (λ t. t, tt) }
read_light n l f (SharedBy cs) a b = record { less = omega arith; slot = λ t. refl; sent = (λ t. t, tt) }
read_light n l f (Dirty o) a b = record { less = omega arith; slot = λ t. refl; sent = (λ t. t, tt) }

invals_weight : (n : ℕ) (l : LineId) (r : ℕ) (cs : List ℕ) (c : ℕ) (m : Msg) → sent_weight n (invals_to l r cs ++ (to c m ∷ [])) ≡ length cs * msg_weight n (Inval l (cluster_id r)) + msg_weight n m
unfolding weigh invals_to
invals_weight n l r [] c m = omega arith
invals_weight n l r (x ∷ xs) c m = let rest = invals_weight n l r xs c m in omega arith

invals_ask : (l : LineId) (r : ℕ) (cs : List ℕ) (c : ℕ) (m : Msg) → (AsksForLine m → ⊥) → NoneAsks (invals_to l r cs ++ (to c m ∷ []))
unfolding invals_to
invals_ask l r [] c m k = (k, tt)
invals_ask l r (x ∷ xs) c m k = (λ t. t, invals_ask l r xs c m k)

own_light : (n : ℕ) (l : LineId) (f : ℕ) (e : Entry) (a : Cell) (b : Home) → 1 ≤ n → EntryBounded n e → LightensLine n (msg_weight n (ReadEx l)) a (own_row l f e a b)
unfolding weigh
own_light n l f Uncached a b some k = record { less = omega arith; slot = λ t. refl; sent = (λ t. t, tt) }
own_light n l f (SharedBy cs) a b some k =
    let m : Msg = DataEx l b.mem (length (without f cs)) in
    let weight = invals_weight n l f (without f cs) f m in
    let fewer = without-length f cs in
    let few = strict-length 0 n cs k in
    record { less = omega arith; slot = λ t. refl; sent = invals_ask l f (without f cs) f m (λ t. t) }
own_light n l f (Dirty o) a b some k = record { less = omega arith; slot = λ t. refl; sent = (λ t. t, tt) }

give_read_light : (n : ℕ) (l : LineId) (h : ℕ) (r : ClusterId) (x : Copy) (y : Acks) (a : Cell) (b : Home) → a.copy ≡ x → LightensLine n (msg_weight n (FwdRead l r)) a (give_read l h r.0 x y a b)
unfolding weigh
give_read_light n l h r (Held hs (Some o) d) NoAcks a b e = let same : copy_weight a.copy ≡ 2 * length hs = ap copy_weight e in record { less = omega arith; slot = λ t. refl; sent = (λ t. t, (λ t. t, tt)) }
give_read_light n l h r _ _ a b e = record { less = omega arith; slot = λ t. refl; sent = (λ t. t, tt) }

give_own_light : (n : ℕ) (l : LineId) (h : ℕ) (r : ClusterId) (x : Copy) (y : Acks) (a : Cell) (b : Home) → LightensLine n (msg_weight n (FwdReadEx l r)) a (give_own l h r.0 x y a b)
unfolding weigh
give_own_light n l h r (Held hs (Some o) d) NoAcks a b = record { less = omega arith; slot = λ t. refl; sent = (λ t. t, (λ t. t, tt)) }
give_own_light n l h r _ _ a b = record { less = omega arith; slot = λ t. refl; sent = (λ t. t, tt) }

-- a slot that becomes another: it weighs no more than k beside what it did, and has not asked anew
pub record Turns (k : ℕ) (s t : Slot) : Type 0 where
  pub weight : slot_weight t ≤ k + slot_weight s
  pub asked : HasAsked t → s ≡ t

stays : (s : Slot) → Turns 0 s s
stays s = record { weight = omega arith; asked = λ t. refl }

refuse_by : (n h : ℕ) (s : Slot) (i : Bool) → Turns 0 s (cond i (Reads n h Refused) NoSlot)
refuse_by n h s true = record { weight = omega arith; asked = λ t. absurd t }
refuse_by n h s false = record { weight = omega arith; asked = λ t. absurd t }

refuse_own_by : (n h : ℕ) (s : Slot) (i : Bool) → Turns 0 s (cond i (Owns n h Refused) NoSlot)
refuse_own_by n h s true = record { weight = omega arith; asked = λ t. absurd t }
refuse_own_by n h s false = record { weight = omega arith; asked = λ t. absurd t }

poisons : (k : ℕ) (s : Slot) → Turns 0 s (poison k s)
poisons k (Reads n h Asked) = record { weight = omega arith; asked = λ t. absurd t }
poisons k (Reads n h (Came d)) = refuse_by n h (Reads n h (Came d)) (nat_lt n k)
poisons k s = stays s

arrives : (k : ℕ) (d : Line) (s : Slot) → Turns (slot_weight (Reads 0 0 (Came d))) s (arrive k d s)
arrives k d (Reads n h Asked) = record { weight = omega arith; asked = λ t. absurd t }
arrives k d (Reads n h Poisoned) = let r = refuse_by n h (Reads n h Poisoned) (nat_lt n k) in record { weight = (let e = r.weight in omega arith); asked = r.asked }
arrives k d s = record { weight = omega arith; asked = λ t. refl }

arrives_own : (d : Line) (s : Slot) → Turns (slot_weight (Owns 0 0 (Came d))) s (arrive_own d s)
arrives_own d (Owns n h Asked) = record { weight = omega arith; asked = λ t. absurd t }
arrives_own d s = record { weight = omega arith; asked = λ t. refl }

naks : (k : ℕ) (s : Slot) → Turns 0 s (nak_slot k s)
naks k (Reads n h Asked) = refuse_by n h (Reads n h Asked) (nat_lt n k)
naks k (Reads n h Poisoned) = refuse_by n h (Reads n h Poisoned) (nat_lt n k)
naks k (Owns n h Asked) = refuse_own_by n h (Owns n h Asked) (nat_lt n k)
naks k (Owns n h Poisoned) = refuse_own_by n h (Owns n h Poisoned) (nat_lt n k)
naks k s = stays s

write_back_light : (n : ℕ) (l : LineId) (d : Line) (i : Bool) (a : Cell) (b : Home) → LightensLine n (msg_weight n (WriteBack l d)) a (write_back_row d i a b)
unfolding weigh
write_back_light n l d true a b = record { less = omega arith; slot = λ t. refl; sent = tt }
write_back_light n l d false a b = record { less = omega arith; slot = λ t. refl; sent = tt }

sharing_back_light : (n f : ℕ) (l : LineId) (d : Line) (r : ClusterId) (i : Bool) (a : Cell) (b : Home) → LightensLine n (msg_weight n (SharingBack l d r)) a (sharing_back_row f d r.0 i a b)
unfolding weigh
sharing_back_light n f l d r true a b = record { less = omega arith; slot = λ t. refl; sent = tt }
sharing_back_light n f l d r false a b = record { less = omega arith; slot = λ t. refl; sent = tt }

transfer_light : (n : ℕ) (l : LineId) (r : ClusterId) (i : Bool) (a : Cell) (b : Home) → LightensLine n (msg_weight n (Transfer l r)) a (transfer_row l r.0 i a b)
unfolding weigh
transfer_light n l r true a b = record { less = omega arith; slot = λ t. refl; sent = (λ t. t, tt) }
transfer_light n l r false a b = record { less = omega arith; slot = λ t. refl; sent = tt }

stays_light : (n k : ℕ) (a : Cell) (b : Home) → 1 ≤ k → LightensLine n k a (record { cell = a; home = b; sent = [] })
unfolding weigh
stays_light n k a b some = record { less = omega arith; slot = λ t. refl; sent = tt }

read_at : (n : ℕ) (l : LineId) (f : ℕ) (i : Bool) (a : Cell) (b : Home) → LightensLine n (msg_weight n (Read l)) a (cond i (read_row l f b.entry a b) (record { cell = a; home = b; sent = [] }))
read_at n l f true a b = read_light n l f b.entry a b
read_at n l f false a b = stays_light n (msg_weight n (Read l)) a b (omega arith)

own_at : (n : ℕ) (l : LineId) (f : ℕ) (i : Bool) (a : Cell) (b : Home) → 1 ≤ n → (i ≡ true → EntryBounded n b.entry) → LightensLine n (msg_weight n (ReadEx l)) a (cond i (own_row l f b.entry a b) (record { cell = a; home = b; sent = [] }))
own_at n l f true a b some k = own_light n l f b.entry a b some (k refl)
own_at n l f false a b some k = stays_light n (msg_weight n (ReadEx l)) a b (omega arith)

-- each message of a line that is taken; for ReadEx it has to be known that no more clusters share the line than there are
pub take_light : (n k h c f : ℕ) (m : Msg) (a : Cell) (b : Home) → 1 ≤ n → (c ≡ h → EntryBounded n b.entry) → LightensLine n (msg_weight n m) a (take_row k h c f m a b)
unfolding weigh
take_light n k h c f (Read l) a b some e = read_at n l f (c == h) a b
take_light n k h c f (ReadEx l) a b some e = own_at n l f (c == h) a b some (λ t. e (is_same c h t))
take_light n k h c f (FwdRead l r) a b some e = give_read_light n l h r a.copy a.acks a b refl
take_light n k h c f (FwdReadEx l r) a b some e = give_own_light n l h r a.copy a.acks a b
take_light n k h c f (Inval l r) a b some e = let s = poisons k a.slot in let low = s.weight in record { less = omega arith; slot = s.asked; sent = (λ t. t, tt) }
take_light n k h c f (WriteBack l d) a b some e = write_back_light n l d ((c == h) && is_dirty_of f b.entry) a b
take_light n k h c f (SharingBack l d r) a b some e = sharing_back_light n f l d r ((c == h) && is_dirty_of f b.entry) a b
take_light n k h c f (Transfer l r) a b some e = transfer_light n l r ((c == h) && is_dirty_of f b.entry) a b
take_light n k h c f (Data l d) a b some e = let s = arrives k d a.slot in let low = s.weight in record { less = omega arith; slot = s.asked; sent = tt }
take_light n k h c f (DataEx l d count) a b some e = let s = arrives_own d a.slot in let low = s.weight in record { less = omega arith; slot = s.asked; sent = tt }
take_light n k h c f (Ack l) a b some e = record { less = omega arith; slot = λ t. refl; sent = tt }
take_light n k h c f (TransferAck l) a b some e = record { less = omega arith; slot = λ t. refl; sent = tt }
take_light n k h c f (Nak l) a b some e = let s = naks k a.slot in let low = s.weight in record { less = omega arith; slot = s.asked; sent = tt }
take_light n k h c f m a b some e = record { less = omega arith; slot = λ t. refl; sent = tt }

-- each message weighs something
pub some_weight : (n : ℕ) (m : Msg) → 1 ≤ msg_weight n m
some_weight n (ReadEx l) = omega arith
some_weight n m = omega arith

-- a line that is installed
pub install_light : (n s h : ℕ) (x : Slot) (a : Cell) (b : Home) → a.slot ≡ x → HasCome s h x → LightensLine n 0 a (install_row x a b)
unfolding weigh
install_light n s h (Reads m t (Came d)) a b e k = let same : slot_weight a.slot ≡ slot_weight (Reads m t (Came d)) = ap slot_weight e in record { less = omega arith; slot = λ z. absurd z; sent = tt }
install_light n s h (Owns m t (Came d)) a b e k = let same : slot_weight a.slot ≡ slot_weight (Owns m t (Came d)) = ap slot_weight e in record { less = omega arith; slot = λ z. absurd z; sent = tt }
install_light n s h x a b e k = absurd k

-- a list without one of its members is shorter
shorter_by : (c x : ℕ) (cs : List ℕ) (i : Bool) → (x == c) ≡ i → (member c cs ≡ true → length (without c cs) < length cs) → length (without c cs) ≤ length cs → member c (x ∷ cs) ≡ true → length (cond (not i) (x ∷ without c cs) (without c cs)) < suc (length cs)
unfolding member
shorter_by c x cs true e ih few there = omega arith
shorter_by c x cs false e ih few there = let less = ih (sym (ap (λ i. i || member c cs) e) ∙ there) in omega arith

none_in : (c : ℕ) → member c [] ≡ true → ⊥
unfolding member
none_in c there = cc

pub without_less : (c : ℕ) (cs : List ℕ) → member c cs ≡ true → length (without c cs) < length cs
unfolding without
without_less c [] there = absurd (none_in c there)
without_less c (x ∷ cs) there = shorter_by c x cs (x == c) refl (without_less c cs) (without-length c cs) there

shrunk_weight : (xs : List ℕ) (d : Line) → copy_weight (shrunk xs d) ≡ 2 * length xs
shrunk_weight [] d = refl
shrunk_weight (x ∷ xs) d = refl

-- a holder that is dropped
dropped : (t : ℕ) (x : Copy) → held_by t x ≡ true → 2 + copy_weight (drop_hart t x) ≤ copy_weight x
dropped t (Held hs None d) there = let fewer = without_less t hs there in let now = shrunk_weight (without t hs) d in omega arith
dropped t (Held hs (Some o) d) there = let fewer = without_less t hs there in omega arith
dropped t NoCopy there = absurd (cc)

evict_own_light : (n h t : ℕ) (l : LineId) (x : Copy) (a : Cell) (b : Home) → a.copy ≡ x → is_owner t x ≡ true → held_by t x ≡ true → LightensLine n 0 a (evict_row l h x a b)
unfolding weigh
evict_own_light n h t l (Held hs (Some o) d) a b e owns there =
    let same : copy_weight a.copy ≡ 2 * length hs = ap copy_weight e in
    let fewer = without_less t hs there in
    record { less = omega arith; slot = λ z. refl; sent = (λ z. z, tt) }
evict_own_light n h t l (Held hs None d) a b e owns there = absurd (cc)
evict_own_light n h t l NoCopy a b e owns there = absurd (cc)

evict_by : (n h t : ℕ) (l : LineId) (a : Cell) (b : Home) (i : Bool) → is_owner t a.copy ≡ i → held_by t a.copy ≡ true → LightensLine n 0 a (act_row l h (cond i (Evict t) (Drop t)) a b)
unfolding weigh
evict_by n h t l a b true e there = evict_own_light n h t l a.copy a b refl e there
evict_by n h t l a b false e there = let less = dropped t a.copy there in record { less = omega arith; slot = λ z. refl; sent = tt }

-- a holder that evicts its line, as the owner or not
pub evict_light : (n h t : ℕ) (l : LineId) (a : Cell) (b : Home) → held_by t a.copy ≡ true → LightensLine n 0 a (act_row l h (evict_act t a.copy) a b)
evict_light n h t l a b there = evict_by n h t l a b (is_owner t a.copy) refl there
