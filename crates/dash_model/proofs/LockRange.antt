-- Each lock message on its way is in range, and each waiter is a hart of the machine.
use Rattle.std.proofs.Common.{◌≡◌, ℕ, ◌/◌, ◌<◌, ◌==◌, ◌&&◌, Bool, true, false, cond, List, [], ◌∷◌, ◌++◌, sym, subst, arith}
use Rattle.std.proofs.lemmas.Bool.Decides.{nat_tests}
use Rattle.std.proofs.Math.Nat.{div-lt_iff_lt-mul}
use Rattle.dash_base.specs.declared.id.HartId.{HartId}
use Rattle.dash_base.specs.declared.id.WordAddr.{WordAddr}
use Rattle.dash_msg.specs.declared.msg.Msg.{Msg}
use Rattle.dash_msg.specs.declared.msg.Msg.TheVariants.{LockAsk, Unlock, LockGrant, UnlockAck}
use Rattle.dash_msg.specs.declared.parcel.Sent.{Sent}
use Rattle.dash_event.specs.declared.event.Event.{Event}
use Rattle.dash_event.specs.declared.event.Kind.{Kind}
use Rattle.hart_core.specs.Access.{IsLockWord}
use Rattle.hart_core.specs.Meaning.{Needs}
use Rattle.dash_base.specs.declared.need.Need.{Need}
use Rattle.dash_base.specs.declared.need.Need.TheVariants as needed
use Rattle.hart_core.proofs.LawsOffered.{proper}
use Rattle.dash_model.specs.Config.{Config, hart_id, all_harts, cluster_of, is_lock, lock_at, lock_home}
use Rattle.dash_model.specs.Part.{Waiter, Lock, Part}
use Rattle.dash_model.specs.HartRows.{PartEffect, quiet, lock_target}
use Rattle.dash_model.specs.LockRows.{grant_row, free_row, queued}
use Rattle.dash_model.specs.HartGuards.{LockSends}
use Rattle.dash_model.specs.Ranges.{has_hart, own_lock, in_range}
use Rattle.dash_model.specs.Row.{row}
use Rattle.dash_model.specs.OnLine.{is_of}
use Rattle.dash_model.specs.LockFacts.{AllAreHarts}
use Rattle.dash_model.specs.Machine.{Machine, Step, taken, less, CanHappen, after, Reaches}
use Rattle.dash_model.proofs.Tests.{same, below, is_below, both, both_left}
use Rattle.dash_model.proofs.Along.{AllAre}
use Rattle.dash_model.proofs.Each.{Each, EachSent, less_each, send_each}
use Rattle.dash_model.proofs.LockViews.{LockView, Plain, Sends, Grants, Frees, Waits, Granted, Freed, Drops, lock_view}
use Rattle.dash_model.proofs.InRuns.{in_runs}

-- a lock message is in range for cluster c
abbrev pub LockFits : Config → ℕ → Msg → Type 0
LockFits w c (LockAsk h n word v) = in_range w c (LockAsk h n word v) ≡ true
LockFits w c (Unlock h n word) = in_range w c (Unlock h n word) ≡ true
LockFits w c (LockGrant h) = in_range w c (LockGrant h) ≡ true
LockFits w c (UnlockAck h old) = in_range w c (UnlockAck h old) ≡ true
LockFits w c m = Unit {0}

-- messages of lines
line_fits : (w : Config) (c k : ℕ) (m : Msg) → is_of k m ≡ true → LockFits w c m
line_fits w c k (LockAsk h n word v) e = absurd (cc)
line_fits w c k (Unlock h n word) e = absurd (cc)
line_fits w c k (LockGrant h) e = absurd (cc)
line_fits w c k (UnlockAck h old) e = absurd (cc)
line_fits w c k _ e = tt

lines_fit : (w : Config) (k : ℕ) (ss : List Sent) → AllAre k true ss → EachSent (LockFits w) ss
lines_fit w k [] h = tt
lines_fit w k (s ∷ ss) h = (line_fits w s.to.0 k s.msg h.0, lines_fit w k ss h.1)

-- what a row sends, and leaves in its queues
pub record Fits (w : Config) (d : PartEffect) : Type 0 where
  pub sent : EachSent (LockFits w) d.sent
  pub queues : (i : ℕ) → AllAreHarts w (d.part.locks i).queue

-- each queue of a part has harts of the machine
abbrev pub Queues : Config → Part → Type 0
Queues w p = (i : ℕ) → AllAreHarts w (p.locks i).queue

-- a hart of a cluster of the machine is one of the machine
pub hart_below : (w : Config) (h c : ℕ) → cluster_of w h ≡ c → c < w.top.clusters → h < all_harts w
hart_below w h c mine b =
    let some : 0 < w.top.harts = w.top.harts_in_range.low in
    let low : h / w.top.harts < w.top.clusters = subst (λ z. z < w.top.clusters) (sym mine) b in
    (div-lt_iff_lt-mul some).0 low

-- a lock word that an instruction needs
pub lock_word : (w : Config) (word : WordAddr) → IsLockWord w.top word.0 → is_lock w word.0 ≡ true
lock_word w word i = grind (arith, nat_tests)

sends_fit : (w : Config) (h : ℕ) (m : Msg) (need : Need) (p : Part) → h < all_harts w → Needs w.image w.top (p.harts h).core need → LockSends h m need p → LockFits w (lock_target w m) m
sends_fit w h m (needed.Ask word value) p b n e =
    let lock = lock_word w word (proper w.image w.top (p.harts h).core (needed.Ask word value) n) in
    subst (λ y. LockFits w (lock_target w y) y) (sym e) (both (has_hart w (hart_id h)) (own_lock w (lock_home w (lock_at w word.0)) word) (below h (all_harts w) b) (both (is_lock w word.0) (lock_home w (lock_at w word.0) == lock_home w (lock_at w word.0)) lock (same (lock_home w (lock_at w word.0)))))
sends_fit w h m (needed.Unlock word) p b n e =
    let lock = lock_word w word (proper w.image w.top (p.harts h).core (needed.Unlock word) n) in
    subst (λ y. LockFits w (lock_target w y) y) (sym e.0) (both (has_hart w (hart_id h)) (own_lock w (lock_home w (lock_at w word.0)) word) (below h (all_harts w) b) (both (is_lock w word.0) (lock_home w (lock_at w word.0) == lock_home w (lock_at w word.0)) lock (same (lock_home w (lock_at w word.0)))))
sends_fit w h m _ p b n e = absurd e

-- one queue changed
one_queue : (w : Config) (p : Part) (k v n : ℕ) (q : List Waiter) → Queues w p → AllAreHarts w q → (i : ℕ) (b : Bool) → AllAreHarts w (cond b (record { value = v; count = n; queue = q }) (p.locks i)).queue
one_queue w p k v n q all new i true = new
one_queue w p k v n q all new i false = all i

grant_fits : (w : Config) (i : ℕ) (b : List Waiter) (p : Part) → AllAreHarts w b → Queues w p → Fits w (grant_row w i b p)
grant_fits w i [] p h q = record { sent = tt; queues = q }
grant_fits w i (x ∷ xs) p h q = record {
  sent = (both (has_hart w (hart_id x.hart)) (cluster_of w x.hart == cluster_of w x.hart) (below x.hart (all_harts w) h.0) (same (cluster_of w x.hart)), tt);
  queues = λ k. one_queue w p i x.value _ xs q h.1 k (k == i);
}

free_fits : (w : Config) (c i : ℕ) (h : HartId) (word : WordAddr) (p : Part) → has_hart w h && own_lock w c word ≡ true → Queues w p → Fits w (free_row w i h p)
free_fits w c i h word p s q = record {
  sent = (both (has_hart w h) (cluster_of w h.0 == cluster_of w h.0) (both_left (has_hart w h) (own_lock w c word) s) (same (cluster_of w h.0)), tt);
  queues = λ k. one_queue w p i 0 _ (p.locks i).queue q (q i) k (k == i);
}

more_harts : (w : Config) (xs : List Waiter) (x : Waiter) → AllAreHarts w xs → x.hart < all_harts w → AllAreHarts w (xs ++ x ∷ [])
more_harts w [] x h b = (b, tt)
more_harts w (y ∷ ys) x h b = (h.0, more_harts w ys x h.1 b)

ask_fits : (w : Config) (c : ℕ) (t : HartId) (n : ℕ) (word : WordAddr) (v : ℕ) (p : Part) → in_range w c (LockAsk t n word v) ≡ true → Queues w p → Fits w (quiet (queued (lock_at w word.0) (record { hart = t.0; number = n; value = v }) p))
ask_fits w c t n word v p range q =
    let i = lock_at w word.0 in
    let x : Waiter = record { hart = t.0; number = n; value = v } in
    let low = is_below t.0 (all_harts w) (both_left (has_hart w t) (own_lock w c word) range) in
    record { sent = tt; queues = λ k. one_queue w p i (p.locks i).value (p.locks i).count ((p.locks i).queue ++ x ∷ []) q (more_harts w (p.locks i).queue x (q i) low) k (k == i) }

-- parts with the same lock words
as_queues : (w : Config) (p r : Part) → r.locks ≡ p.locks → Queues w p → Queues w r
as_queues w p r e q i = subst (λ (f : ℕ → Lock). AllAreHarts w (f i).queue) (sym e) (q i)

-- each event
view_fits : (w : Config) (c : ℕ) (p : Part) (e : Kind) (r : PartEffect) → c < w.top.clusters → Queues w p → LockView w c p e r → Fits w r
view_fits w c p _ _ b q (Plain e r k) = record { sent = lines_fit w k.line r.sent k.sent; queues = as_queues w p r.part k.locks q }
view_fits w c p _ _ b q (Sends g m need z mine needs sends l) = record { sent = (sends_fit w g.0 m need p (hart_below w g.0 c mine b) needs sends, tt); queues = as_queues w p z l q }
view_fits w c p _ _ b q (Grants a x xs own is mine) = grant_fits w (lock_at w a.word.0) (x ∷ xs) p (subst (AllAreHarts w) is (q (lock_at w a.word.0))) q
view_fits w c p _ _ b q (Frees f a s) = free_fits w c (lock_at w a.word.0) a.hart a.word p s q
view_fits w c p _ _ b q (Waits f t n word v range) = ask_fits w c t n word v p range q
view_fits w c p _ _ b q (Granted f t z l) = record { sent = tt; queues = as_queues w p z l q }
view_fits w c p _ _ b q (Freed f t old z l) = record { sent = tt; queues = as_queues w p z l q }
view_fits w c p _ _ b q (Drops f m k) = record { sent = tt; queues = q }

-- all lock messages are in range, and all waiters harts of the machine
pub record LocksFit (w : Config) (m : Machine) : Type 0 where
  pub net : Each (LockFits w) m.net
  pub queues : (c : ℕ) → Queues w (m.parts c)

either : (w : Config) (q p : Part) (b : Bool) → Queues w q → Queues w p → Queues w (cond b q p)
either w q p true h k = h
either w q p false h k = k

fits_step : (w : Config) (log : List Event) (m : Machine) (g : Step) → Reaches w log m → CanHappen w m g → LocksFit w m → LocksFit w (after w m g)
fits_step w log m g r can k =
    let c = g.event.cluster.0 in
    let d = row w c g.event.kind g.done (m.parts c) in
    let s = view_fits w c (m.parts c) g.event.kind d can.cluster (k.queues c) (lock_view w c g.event.kind g.done (m.parts c) can.steps.guard) in
    record {
      net = send_each (LockFits w) g.event.stamp c (less (taken c g.stamp g.event.kind) m.net) d.sent (less_each (LockFits w) (taken c g.stamp g.event.kind) m.net k.net) s.sent;
      queues = λ x. either w (record d.part { last = g.event.stamp }) (m.parts x) (x == c) s.queues (k.queues x);
    }

pub locks_fit : (w : Config) (log : List Event) (m : Machine) → Reaches w log m → LocksFit w m
locks_fit w log m r = in_runs w (λ es n. LocksFit w n) (record { net = tt; queues = λ c i. tt }) (λ es n g reached can k. fits_step w es n g reached can k) log m r
