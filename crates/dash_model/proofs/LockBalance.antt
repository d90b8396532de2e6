-- What each event does to the lock messages of a hart, its places in queues, and whether it asked: what one gains another loses.
use Rattle.std.proofs.Common.{◌≡◌, ℕ, ◌+◌, ◌*◌, ◌≤◌, ◌<◌, ◌==◌, true, cond, List, [], ◌∷◌, ◌++◌, refl, sym, ap, ◌∙◌, arith}
use Rattle.std.proofs.lemmas.Bool.Decides.{nat_tests}
use Rattle.dash_base.specs.declared.id.ClusterId.{ClusterId}
use Rattle.dash_base.specs.declared.id.HartId.{HartId}
use Rattle.dash_base.specs.declared.id.WordAddr.{WordAddr}
use Rattle.dash_msg.specs.declared.msg.Msg.{Msg}
use Rattle.dash_msg.specs.declared.msg.Msg.TheVariants.{LockAsk, Unlock, LockGrant, UnlockAck}
use Rattle.dash_msg.specs.declared.parcel.Sent.{Sent}
use Rattle.dash_event.specs.declared.access.Access.{Access}
use Rattle.dash_event.specs.declared.event.Kind.{Kind}
use Rattle.dash_event.specs.declared.event.Kind.TheVariants as kind
use Rattle.dash_base.specs.declared.need.Need.{Need}
use Rattle.dash_base.specs.declared.need.Need.TheVariants as needed
use Rattle.dash_model.specs.Maps.{upd, weigh, total, raised, most}
use Rattle.dash_model.specs.Config.{Config, hart_id, cluster_of, is_lock, lock_at, lock_home}
use Rattle.dash_model.specs.Net.{to}
use Rattle.dash_model.specs.Part.{Waiter, Lock, Part}
use Rattle.dash_model.specs.HartRows.{PartEffect, quiet, HartEffect, lock_target}
use Rattle.dash_model.specs.HartGuards.{LockSends}
use Rattle.dash_model.specs.Guard.{Guard}
use Rattle.dash_model.specs.LockRows.{grant_row, free_row, queued}
use Rattle.dash_model.specs.Ranges.{has_hart, own_lock, in_range, has_space, applies}
use Rattle.dash_model.specs.Row.{row}
use Rattle.dash_model.specs.OnLine.{is_of, one}
use Rattle.dash_model.specs.LockFacts.{of_hart_msg, is_waiter}
use Rattle.dash_model.specs.Cases.{has_case, TakesWell}
use Rattle.dash_model.proofs.Tests.{same, differ, both, both_right}
use Rattle.dash_model.proofs.Along.{AllAre}
use Rattle.dash_model.proofs.LockViews.{IsPlain, LockView, Plain, Sends, Grants, Frees, Waits, Granted, Freed, Drops, lock_view}
use Rattle.dash_model.proofs.Totals.{total_change}
use Rattle.dash_model.proofs.HartSteps.{asks_now, answers_now, Idle}

-- how many lock messages of hart h an event takes
abbrev pub takes_lock : Kind → ℕ → ℕ
takes_lock (kind.Take f m) h = of_hart_msg h m
takes_lock (kind.Free f a) h = one a.hart.0 h
takes_lock e h = 0

-- how many of these are lock messages of hart h
abbrev pub sent_locks : ℕ → List Sent → ℕ
sent_locks h ss = weigh (λ (s : Sent). of_hart_msg h s.msg) ss

-- its places in the queue of lock word i, where c is the word's home
abbrev pub own_at : Config → ℕ → Part → ℕ → ℕ → ℕ
own_at w c p h i = cond (lock_home w i == c) (weigh (is_waiter h) (p.locks i).queue) 0

abbrev pub own_places : Config → ℕ → Part → ℕ → ℕ
own_places w c p h = total (own_at w c p h) w.top.locks

-- what is sent or waits is what was taken, waited or asked now
pub record Balanced (w : Config) (c : ℕ) (e : Kind) (h : ℕ) (p : Part) (d : PartEffect) : Type 0 where
  pub even : sent_locks h d.sent + own_places w c d.part h + answers_now e h ≡ takes_lock e h + own_places w c p h + asks_now e h

level : (s a b n t k : ℕ) → s ≡ 0 → a ≡ b → n ≡ 0 → t ≡ 0 → k ≡ 0 → s + a + n ≡ t + b + k
level s a b n t k e f g i j = omega arith

line_none : (h k : ℕ) (m : Msg) → is_of k m ≡ true → of_hart_msg h m ≡ 0
line_none h k (LockAsk t n word v) e = absurd (cc)
line_none h k (Unlock t n word) e = absurd (cc)
line_none h k (LockGrant t) e = absurd (cc)
line_none h k (UnlockAck t old) e = absurd (cc)
line_none h k _ e = refl

lines_none : (h k : ℕ) (ss : List Sent) → AllAre k true ss → sent_locks h ss ≡ 0
unfolding weigh
lines_none h k [] a = refl
lines_none h k (s ∷ ss) a =
    let here = line_none h k s.msg a.0 in
    let rest = lines_none h k ss a.1 in
    omega arith

sent_none : (h : ℕ) → sent_locks h [] ≡ 0
unfolding weigh
sent_none h = refl

sent_one : (h : ℕ) (s : Sent) → sent_locks h (s ∷ []) ≡ of_hart_msg h s.msg
unfolding weigh
sent_one h s = omega arith

weigh_more : (h : ℕ) (xs : List Waiter) (x : Waiter) → weigh (is_waiter h) (xs ++ x ∷ []) ≡ weigh (is_waiter h) xs + is_waiter h x
unfolding weigh
weigh_more h [] x = omega arith
weigh_more h (y ∷ ys) x = let rest = weigh_more h ys x in omega arith

pub weigh_first : (h : ℕ) (xs : List Waiter) (x : Waiter) → weigh (is_waiter h) (x ∷ xs) ≡ is_waiter h x + weigh (is_waiter h) xs
unfolding weigh
weigh_first h xs x = refl

-- lock word i is another one: what its queue loses and gains
queue_change : (w : Config) (c : ℕ) (p : Part) (i : ℕ) (x : Lock) (h : ℕ) → i < w.top.locks → (lock_home w i == c) ≡ true
    → own_places w c (record p { locks = upd p.locks i x }) h + weigh (is_waiter h) (p.locks i).queue ≡ own_places w c p h + weigh (is_waiter h) x.queue
queue_change w c p i x h low home =
    let q = record p { locks = upd p.locks i x } in
    let sum = total_change (own_at w c p h) (own_at w c q h) i w.top.locks low (λ j d. ap (λ b. cond (lock_home w j == c) (weigh (is_waiter h) (cond b x (p.locks j)).queue) 0) (sym (differ j i d))) in
    let before : own_at w c p h i ≡ weigh (is_waiter h) (p.locks i).queue = ap (λ b. cond b (weigh (is_waiter h) (p.locks i).queue) 0) home in
    let after : own_at w c q h i ≡ weigh (is_waiter h) x.queue = ap (λ b. cond b (weigh (is_waiter h) (cond (i == i) x (p.locks i)).queue) 0) home ∙ ap (λ b. weigh (is_waiter h) (cond b x (p.locks i)).queue) (same i) in
    omega arith

-- a lock word of this home
pub lock_below : (w : Config) (c : ℕ) (word : WordAddr) → own_lock w c word ≡ true → lock_at w word.0 < w.top.locks
lock_below w c word e =
    let above : w.top.base + w.top.memory ≤ word.0 = grind (arith, nat_tests) in
    let below : word.0 < w.top.base + w.top.memory + 4 * w.top.locks = grind (arith, nat_tests) in
    omega arith

pub lock_there : (w : Config) (c : ℕ) (word : WordAddr) → own_lock w c word ≡ true → (lock_home w (lock_at w word.0) == c) ≡ true
lock_there w c word e = both_right (is_lock w word.0) (lock_home w (lock_at w word.0) == c) e

granted : (w : Config) (c : ℕ) (a : Access) (h i : ℕ) (x : Waiter) (xs : List Waiter) (p : Part) → i < w.top.locks → (lock_home w i == c) ≡ true → (p.locks i).queue ≡ x ∷ xs → Balanced w c (kind.Grant a) h p (grant_row w i (x ∷ xs) p)
granted w c a h i x xs p low home is =
    let d = grant_row w i (x ∷ xs) p in
    let sum = queue_change w c p i (record { value = x.value; count = raised most (p.locks i).count; queue = xs }) h low home in
    let before : weigh (is_waiter h) (p.locks i).queue ≡ is_waiter h x + weigh (is_waiter h) xs = ap (weigh (is_waiter h)) is ∙ weigh_first h xs x in
    let sent : sent_locks h d.sent ≡ is_waiter h x = sent_one h (to (cluster_of w x.hart) (LockGrant (hart_id x.hart))) in
    record { even = omega arith }

freed : (w : Config) (c : ℕ) (f : ClusterId) (a : Access) (h : ℕ) (p : Part) → own_lock w c a.word ≡ true → Balanced w c (kind.Free f a) h p (free_row w (lock_at w a.word.0) a.hart p)
freed w c f a h p own =
    let i = lock_at w a.word.0 in
    let d = free_row w i a.hart p in
    let sum = queue_change w c p i (record { value = 0; count = raised most (p.locks i).count; queue = (p.locks i).queue }) h (lock_below w c a.word own) (lock_there w c a.word own) in
    let sent : sent_locks h d.sent ≡ one a.hart.0 h = sent_one h (to (cluster_of w a.hart.0) (UnlockAck a.hart (p.locks i).value)) in
    record { even = omega arith }

sends_one : (g h : ℕ) (m : Msg) (need : Need) (p : Part) → LockSends g m need p → of_hart_msg h m ≡ one g h
sends_one g h m (needed.Ask word value) p e = ap (of_hart_msg h) e
sends_one g h m (needed.Unlock word) p e = ap (of_hart_msg h) e.0
sends_one g h m _ p e = absurd e

same_places : (w : Config) (c h : ℕ) (p q : Part) → q.locks ≡ p.locks → own_places w c q h ≡ own_places w c p h
same_places w c h p q l = ap (λ (f : ℕ → Lock). total (λ k. cond (lock_home w k == c) (weigh (is_waiter h) (f k).queue) 0) w.top.locks) l

lock_sent : (w : Config) (c : ℕ) (g : HartId) (m : Msg) (h : ℕ) (p q : Part) (k : ℕ) → of_hart_msg h m ≡ one g.0 h → q.locks ≡ p.locks → Balanced w c (kind.LockSend g m) h p (record { part = q; sent = to k m ∷ [] })
lock_sent w c g m h p q k e l =
    let sent = sent_one h (to k m) in
    let own = same_places w c h p q l in
    record { even = omega arith }

asked_for : (w : Config) (c : ℕ) (f : ClusterId) (t : HartId) (n v : ℕ) (word : WordAddr) (h : ℕ) (p : Part) → own_lock w c word ≡ true → Balanced w c (kind.Take f (LockAsk t n word v)) h p (quiet (queued (lock_at w word.0) (record { hart = t.0; number = n; value = v }) p))
asked_for w c f t n v word h p own =
    let i = lock_at w word.0 in
    let x : Waiter = record { hart = t.0; number = n; value = v } in
    let sum = queue_change w c p i (record (p.locks i) { queue = (p.locks i).queue ++ x ∷ [] }) h (lock_below w c word own) (lock_there w c word own) in
    let more = weigh_more h (p.locks i).queue x in
    let sent = sent_none h in
    record { even = omega arith }

-- an event that has nothing to do with lock words
plain_idle : (e : Kind) (h : ℕ) → IsPlain e → (takes_lock e h ≡ 0) × Idle e h
plain_idle (kind.LockSend g m) h i = absurd i
plain_idle (kind.Grant a) h i = absurd i
plain_idle (kind.Free f a) h i = absurd i
plain_idle (kind.Take f (LockAsk t n word v)) h i = absurd i
plain_idle (kind.Take f (Unlock t n word)) h i = absurd i
plain_idle (kind.Take f (LockGrant t)) h i = absurd i
plain_idle (kind.Take f (UnlockAck t old)) h i = absurd i
plain_idle _ h i = (refl, (refl, refl))

answer_even : (w : Config) (c : ℕ) (e : Kind) (h : ℕ) (p q : Part) → q.locks ≡ p.locks → takes_lock e h ≡ answers_now e h → asks_now e h ≡ 0 → Balanced w c e h p (quiet q)
answer_even w c e h p q l t a =
    let sent = sent_none h in
    let own = same_places w c h p q l in
    record { even = omega arith }

view_even : (w : Config) (c : ℕ) (p : Part) (e : Kind) (r : PartEffect) (h : ℕ) → TakesWell w c e p → LockView w c p e r → Balanced w c e h p r
view_even w c p _ _ h well (Plain e r k) =
    let idle = plain_idle e h k.plain in
    record { even = level (sent_locks h r.sent) (own_places w c r.part h) (own_places w c p h) (answers_now e h) (takes_lock e h) (asks_now e h) (lines_none h k.line r.sent k.sent) (same_places w c h p r.part k.locks) idle.1.1 idle.0 idle.1.0 }
view_even w c p _ _ h well (Sends g m need z mine needs sends l) = lock_sent w c g m h p z (lock_target w m) (sends_one g.0 h m need p sends) l
view_even w c p _ _ h well (Grants a x xs own is mine) = granted w c a h (lock_at w a.word.0) x xs p (lock_below w c a.word own) (lock_there w c a.word own) is
view_even w c p _ _ h well (Frees f a s) = freed w c f a h p (both_right (has_hart w a.hart) (own_lock w c a.word) s)
view_even w c p _ _ h well (Waits f t n word v range) = asked_for w c f t n v word h p (both_right (has_hart w t) (own_lock w c word) range)
view_even w c p _ _ h well (Granted f t z l) = answer_even w c (kind.Take f (LockGrant t)) h p z l refl refl
view_even w c p _ _ h well (Freed f t old z l) = answer_even w c (kind.Take f (UnlockAck t old)) h p z l refl refl
view_even w c p _ _ h well (Drops f m none) =
    let some = both (applies w c m p) (has_case f.0 m p) (both (in_range w c m) (has_space w c m p) well.range well.room) well.case in
    absurd (cc)

-- each event
pub balanced : (w : Config) (c : ℕ) (e : Kind) (d : HartEffect) (p : Part) (h : ℕ) → Guard w c e d p → TakesWell w c e p → Balanced w c e h p (row w c e d p)
balanced w c e d p h can well = view_even w c p e (row w c e d p) h well (lock_view w c e d p can)
