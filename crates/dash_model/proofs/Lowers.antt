-- Each Take, Free, Grant, Install and Evict of a cluster lowers its weight beside that of its messages, and asks for no line.
use Rattle.std.proofs.Common.{◌≡◌, ℕ, ◌+◌, ◌*◌, ◌≤◌, ◌<◌, ◌==◌, Bool, true, false, cond, List, [], ◌∷◌, ◌++◌, length, map, refl, sym, ap, ◌∙◌, subst, inl, inr, arith}
use Rattle.std.proofs.lemmas.List.{length-append}
use Rattle.dash_base.specs.declared.id.HartId.{HartId}
use Rattle.dash_base.specs.declared.id.LineId.{LineId}
use Rattle.dash_msg.specs.declared.msg.Msg.{Msg}
use Rattle.dash_msg.specs.declared.msg.Msg.TheVariants.{Read, ReadEx, FwdRead, FwdReadEx, Inval, WriteBack, SharingBack, Transfer, LockAsk, Unlock, Data, DataEx, Ack, TransferAck, Nak, LockGrant, UnlockAck}
use Rattle.dash_msg.specs.declared.parcel.Sent.{Sent}
use Rattle.dash_event.specs.declared.event.Kind.{Kind}
use Rattle.dash_event.specs.declared.event.Kind.TheVariants as kind
use Rattle.dash_model.specs.Maps.{upd, weigh, total, raised, most}
use Rattle.dash_model.specs.Config.{Config, line_id, hart_id, cluster_of, lines, home_of, lock_at, first_prefetch}
use Rattle.dash_model.specs.Net.{packet, to}
use Rattle.dash_model.specs.Cell.{NoCopy, Cell}
use Rattle.dash_model.specs.Part.{Waiter, Lock, Part}
use Rattle.dash_model.specs.LineEffect.{LineEffect}
use Rattle.dash_model.specs.Acts.{install_row, act_row}
use Rattle.dash_model.specs.LineRows.{take_row}
use Rattle.dash_model.specs.HartRows.{PartEffect, quiet, HartEffect, change, on_line, evict_act, kept}
use Rattle.dash_model.specs.LockRows.{grant_row, free_row, queued, answered}
use Rattle.dash_model.specs.Words.{held_by}
use Rattle.dash_model.specs.LineGuards.{HasCome}
use Rattle.dash_model.specs.Ranges.{has_line, has_cluster, has_hart, at_home, in_range, has_space, own_lock, applies}
use Rattle.dash_model.specs.Row.{line_msg_row, msg_row, msg_row_if, row}
use Rattle.dash_model.specs.Guard.{Guard}
use Rattle.dash_model.specs.Machine.{taken}
use Rattle.dash_model.specs.Weight.{msg_weight, packet_weight, cell_weight, part_weight}
use Rattle.dash_model.specs.Settling.{SettlesBy, HasAsked}
use Rattle.dash_model.proofs.Tests.{same, differ, is_same, is_below, both_left, both_right}
use Rattle.dash_model.proofs.Totals.{total_change}
use Rattle.dash_model.proofs.EntryBounds.{EntryBounded}
use Rattle.dash_model.proofs.Nowhere.{IsEmpty}
use Rattle.dash_model.proofs.LockBalance.{lock_below}
use Rattle.dash_model.proofs.InRange.{in_or_out}
use Rattle.dash_model.proofs.Weights.{sent_weight, NoneAsks, LightensLine, take_light, some_weight, install_light, evict_light}

-- a row of a cluster, which takes what weighs k
pub record Lowers (w : Config) (k : ℕ) (p : Part) (d : PartEffect) : Type 0 where
  pub less : sent_weight w.top.clusters d.sent + part_weight w d.part < k + part_weight w p
  pub slots : (l : ℕ) → HasAsked (d.part.cells l).slot → (p.cells l).slot ≡ (d.part.cells l).slot
  pub sent : NoneAsks d.sent

-- a row of one line
slot_by : (k l : ℕ) (a : Cell) (p : Part) (i : Bool) → (l == k) ≡ i → (HasAsked a.slot → (p.cells k).slot ≡ a.slot) → HasAsked (cond i a (p.cells l)).slot → (p.cells l).slot ≡ (cond i a (p.cells l)).slot
slot_by k l a p true e h t = ap (λ z. (p.cells z).slot) (is_same l k e) ∙ h t
slot_by k l a p false e h t = refl

line_lowers : (w : Config) (l k : ℕ) (d : LineEffect) (p : Part) → l < lines w → LightensLine w.top.clusters k (p.cells l) d → Lowers w k p (on_line w l d p)
line_lowers w l k d p low light =
    let change = total_change (λ i. cell_weight (p.cells i)) (λ i. cell_weight (upd p.cells l d.cell i)) l (lines w) low (λ i other. ap (λ b. cell_weight (cond b d.cell (p.cells i))) (sym (differ i l other))) in
    let here : cell_weight (upd p.cells l d.cell l) ≡ cell_weight d.cell = ap (λ b. cell_weight (cond b d.cell (p.cells l))) (same l) in
    let falls = light.less in
    record { less = omega arith; slots = λ i. slot_by l i d.cell p (i == l) refl light.slot; sent = light.sent }

-- a message that only leaves its lane
leaves : (w : Config) (k : ℕ) (p q : Part) → 1 ≤ k → q.cells ≡ p.cells → q.locks ≡ p.locks → Lowers w k p (quiet q)
unfolding weigh
leaves w k p q some cells locks =
    let here : part_weight w q ≡ part_weight w p = ap (λ f. total (λ l. cell_weight (f l)) (lines w) + total (λ i. 2 * length (q.locks i).queue) w.top.locks) cells ∙ ap (λ f. total (λ l. cell_weight (p.cells l)) (lines w) + total (λ i. 2 * length (f i).queue) w.top.locks) locks in
    record { less = omega arith; slots = λ l t. sym (ap (λ f. (f l).slot) cells); sent = tt }

answered_cells : (h : ℕ) (i : Bool) (d : HartEffect) (p : Part) → (answered h i d p).cells ≡ p.cells
answered_cells h true d p = refl
answered_cells h false d p = refl

answered_locks : (h : ℕ) (i : Bool) (d : HartEffect) (p : Part) → (answered h i d p).locks ≡ p.locks
answered_locks h true d p = refl
answered_locks h false d p = refl

-- a row of one lock word, whose queue has then this weight
lock_lowers : (w : Config) (i k : ℕ) (x : Lock) (ss : List Sent) (p : Part) → i < w.top.locks → sent_weight w.top.clusters ss + 2 * length x.queue < k + 2 * length (p.locks i).queue → NoneAsks ss
    → Lowers w k p (record { part = record p { locks = upd p.locks i x }; sent = ss })
lock_lowers w i k x ss p low falls none =
    let change = total_change (λ j. 2 * length (p.locks j).queue) (λ j. 2 * length (upd p.locks i x j).queue) i w.top.locks low (λ j other. ap (λ b. 2 * length (cond b x (p.locks j)).queue) (sym (differ j i other))) in
    let here : 2 * length (upd p.locks i x i).queue ≡ 2 * length x.queue = ap (λ b. 2 * length (cond b x (p.locks i)).queue) (same i) in
    record { less = omega arith; slots = λ l t. refl; sent = none }

-- who asks for a lock word waits in its queue
queue_lowers : (w : Config) (i : ℕ) (x : Waiter) (p : Part) → i < w.top.locks → Lowers w 3 p (quiet (queued i x p))
unfolding weigh
queue_lowers w i x p low =
    let more = length-append (p.locks i).queue (x ∷ []) in
    lock_lowers w i 3 (record (p.locks i) { queue = (p.locks i).queue ++ x ∷ [] }) [] p low (omega arith) tt

free_lowers : (w : Config) (i : ℕ) (h : HartId) (p : Part) → i < w.top.locks → Lowers w 2 p (free_row w i h p)
unfolding weigh
free_lowers w i h p low = lock_lowers w i 2 (record { value = 0; count = raised most (p.locks i).count; queue = (p.locks i).queue }) (to (cluster_of w h.0) (UnlockAck h (p.locks i).value) ∷ []) p low (omega arith) (λ t. t, tt)

grant_lowers : (w : Config) (i : ℕ) (x : Waiter) (xs : List Waiter) (p : Part) → i < w.top.locks → (p.locks i).queue ≡ x ∷ xs → Lowers w 0 p (grant_row w i (x ∷ xs) p)
unfolding weigh
grant_lowers w i x xs p low e =
    let was : length (p.locks i).queue ≡ 1 + length xs = ap length e ∙ (omega arith) in
    lock_lowers w i 0 (record { value = x.value; count = raised most (p.locks i).count; queue = xs }) (to (cluster_of w x.hart) (LockGrant (hart_id x.hart)) ∷ []) p low (omega arith) (λ t. t, tt)

-- a message that is taken, and is in range
pub low_line : (w : Config) (l : LineId) → has_line w l ≡ true → l.0 < lines w
low_line w l e = is_below l.0 (lines w) e

pub low_home : (w : Config) (c : ℕ) (l : LineId) → at_home w c l ≡ true → l.0 < lines w
low_home w c l e = low_line w l (both_left (has_line w l) (home_of w l.0 == c) e)

-- each directory entry of the cluster's own lines has no more sharers than there are clusters
abbrev pub EntriesFit : Config → ℕ → Part → Type 0
EntriesFit w c p = (l : ℕ) → l < lines w → c ≡ home_of w l → EntryBounded w.top.clusters (p.homes l).entry

line_msg_lowers : (w : Config) (c f : ℕ) (l : LineId) (x : Msg) (p : Part) → 1 ≤ w.top.clusters → EntriesFit w c p → l.0 < lines w → Lowers w (msg_weight w.top.clusters x) p (line_msg_row w c f l x p)
line_msg_lowers w c f l x p some fit low = line_lowers w l.0 (msg_weight w.top.clusters x) (take_row (first_prefetch w) (home_of w l.0) c f x (p.cells l.0) (p.homes l.0)) p low (take_light w.top.clusters (first_prefetch w) (home_of w l.0) c f x (p.cells l.0) (p.homes l.0) some (fit l.0 low))

msg_lowers : (w : Config) (c f : ℕ) (x : Msg) (d : HartEffect) (p : Part) → 1 ≤ w.top.clusters → EntriesFit w c p → in_range w c x ≡ true → Lowers w (msg_weight w.top.clusters x) p (msg_row w c f x d p)
msg_lowers w c f (Read l) d p some fit i = line_msg_lowers w c f l (Read l) p some fit (low_home w c l i)
msg_lowers w c f (ReadEx l) d p some fit i = line_msg_lowers w c f l (ReadEx l) p some fit (low_home w c l i)
msg_lowers w c f (FwdRead l r) d p some fit i = line_msg_lowers w c f l (FwdRead l r) p some fit (low_line w l (both_left (has_line w l) (has_cluster w r) i))
msg_lowers w c f (FwdReadEx l r) d p some fit i = line_msg_lowers w c f l (FwdReadEx l r) p some fit (low_line w l (both_left (has_line w l) (has_cluster w r) i))
msg_lowers w c f (Inval l r) d p some fit i = line_msg_lowers w c f l (Inval l r) p some fit (low_line w l (both_left (has_line w l) (has_cluster w r) i))
msg_lowers w c f (WriteBack l x) d p some fit i = line_msg_lowers w c f l (WriteBack l x) p some fit (low_home w c l i)
msg_lowers w c f (SharingBack l x r) d p some fit i = line_msg_lowers w c f l (SharingBack l x r) p some fit (low_home w c l (both_left (at_home w c l) (has_cluster w r) i))
msg_lowers w c f (Transfer l r) d p some fit i = line_msg_lowers w c f l (Transfer l r) p some fit (low_home w c l (both_left (at_home w c l) (has_cluster w r) i))
msg_lowers w c f (LockAsk h n word v) d p some fit i = queue_lowers w (lock_at w word.0) (record { hart = h.0; number = n; value = v }) p (lock_below w c word (both_right (has_hart w h) (own_lock w c word) i))
msg_lowers w c f (Unlock h n word) d p some fit i = leaves w 2 p p (omega arith) refl refl
msg_lowers w c f (Data l x) d p some fit i = line_msg_lowers w c f l (Data l x) p some fit (low_line w l i)
msg_lowers w c f (DataEx l x n) d p some fit i = line_msg_lowers w c f l (DataEx l x n) p some fit (low_line w l i)
msg_lowers w c f (Ack l) d p some fit i = line_msg_lowers w c f l (Ack l) p some fit (low_line w l i)
msg_lowers w c f (TransferAck l) d p some fit i = line_msg_lowers w c f l (TransferAck l) p some fit (low_line w l i)
msg_lowers w c f (Nak l) d p some fit i = line_msg_lowers w c f l (Nak l) p some fit (low_line w l i)
msg_lowers w c f (LockGrant h) d p some fit i = leaves w 1 p (answered h.0 (p.harts h.0).asked d p) (omega arith) (answered_cells h.0 (p.harts h.0).asked d p) (answered_locks h.0 (p.harts h.0).asked d p)
msg_lowers w c f (UnlockAck h old) d p some fit i = leaves w 1 p (answered h.0 (p.harts h.0).asked d p) (omega arith) (answered_cells h.0 (p.harts h.0).asked d p) (answered_locks h.0 (p.harts h.0).asked d p)

take_lowers : (w : Config) (c f : ℕ) (x : Msg) (d : HartEffect) (p : Part) (b : Bool) → applies w c x p ≡ b → 1 ≤ w.top.clusters → EntriesFit w c p → Lowers w (msg_weight w.top.clusters x) p (msg_row_if b w c f x d p)
take_lowers w c f x d p true e some fit = msg_lowers w c f x d p some fit (both_left (in_range w c x) (has_space w c x p) e)
take_lowers w c f x d p false e some fit = leaves w (msg_weight w.top.clusters x) p p (some_weight w.top.clusters x) refl refl

-- a cluster has entries that fit, and nothing of lines that are not of memory
pub record IsNeat (w : Config) (c : ℕ) (p : Part) : Type 0 where
  pub entries : EntriesFit w c p
  pub beyond : (l : ℕ) → lines w ≤ l → IsEmpty (p.cells l)

-- lines that came, or are held, are of memory
come_low : (w : Config) (c n h l : ℕ) (p : Part) → IsNeat w c p → HasCome n h (p.cells l).slot → l < lines w
come_low w c n h l p neat k =
    elim (in_or_out l (lines w)) [
      | inl low ↦ low
      | inr out ↦ absurd (subst (HasCome n h) (neat.beyond l out).1 k)
    ]

held_low : (w : Config) (c h l : ℕ) (p : Part) → IsNeat w c p → held_by h (p.cells l).copy ≡ true → l < lines w
held_low w c h l p neat k =
    elim (in_or_out l (lines w)) [
      | inl low ↦ low
      | inr out ↦ (let none : held_by h NoCopy ≡ true = subst (λ x. held_by h x ≡ true) (neat.beyond l out).0 k in absurd (cc))
    ]

-- what an event takes, by its weight
abbrev pub taken_weight : ℕ → Kind → ℕ
taken_weight n (kind.Take f x) = msg_weight n x
taken_weight n (kind.Free f a) = 2
taken_weight n e = 0

-- any Evict lowers the weight, also one that is for no line that came
pub event_lowers : (w : Config) (c : ℕ) (e : Kind) (d : HartEffect) (p : Part) → IsNeat w c p → 1 ≤ w.top.clusters → Guard w c e d p → SettlesBy w e p → Lowers w (taken_weight w.top.clusters e) p (row w c e d p)
unfolding row Guard
event_lowers w c (kind.Take f x) d p neat some g s = take_lowers w c f.0 x d p (applies w c x p) refl some neat.entries
event_lowers w c (kind.Free f a) d p neat some g s = free_lowers w (lock_at w a.word.0) a.hart p (lock_below w c a.word (both_right (has_hart w a.hart) (own_lock w c a.word) g.serves))
event_lowers w c (kind.Grant a) d p neat some g s = subst (λ q. Lowers w 0 p (grant_row w (lock_at w a.word.0) q p)) (sym g.queue) (grant_lowers w (lock_at w a.word.0) g.waiter g.others p (lock_below w c a.word g.mine) g.queue)
event_lowers w c (kind.Install n h l) d p neat some g s =
    let r = line_lowers w l.0 0 (install_row (p.cells l.0).slot (p.cells l.0) (p.homes l.0)) (change h.0 (kept w l.0 (p.cells l.0).slot (held_by h.0 (p.cells l.0).copy) (p.harts h.0)) p) (come_low w c n h.0 l.0 p neat g.came) (install_light w.top.clusters n h.0 (p.cells l.0).slot (p.cells l.0) (p.homes l.0) refl g.came) in
    record { less = r.less; slots = r.slots; sent = r.sent }
event_lowers w c (kind.Evict h l) d p neat some g s =
    line_lowers w l.0 0 (act_row (line_id l.0) (home_of w l.0) (evict_act h.0 (p.cells l.0).copy) (p.cells l.0) (p.homes l.0)) p (held_low w c h.0 l.0 p neat g.holder) (evict_light w.top.clusters (home_of w l.0) h.0 (line_id l.0) (p.cells l.0) (p.homes l.0) g.holder)
event_lowers w c _ d p neat some g s = absurd s

-- the messages that a row sends, and the one that an event takes, as packets
pub packets_weight : (n t a : ℕ) (ss : List Sent) → weigh (packet_weight n) (map (packet t a) ss) ≡ sent_weight n ss
unfolding weigh
packets_weight n t a [] = refl
packets_weight n t a (x ∷ xs) = ap (λ k. msg_weight n x.msg + k) (packets_weight n t a xs)

pub takes_weight : (n c u : ℕ) (e : Kind) → weigh (packet_weight n) (taken c u e) ≡ taken_weight n e
unfolding weigh
takes_weight n c u (kind.Take f x) = omega arith
takes_weight n c u (kind.Free f a) = omega arith
takes_weight n c u _ = refl
