-- One lock word that changes, how many wait, and the messages that ask for a lock word.
use Rattle.std.proofs.Common.{◌≡◌, ℕ, zero, suc, ◌+◌, ◌-◌, ◌/◌, ◌%◌, ◌*◌, ◌<◌, ◌≤◌, ◌==◌, ◌&&◌, Bool, true, false, cond, nat_lt, nat_le, Option, Some, None, List, [], ◌∷◌, ◌++◌, length, refl, sym, ap, ap₂, ◌∙◌, subst, arith}
use Rattle.std.proofs.lemmas.Bool.Decides.{nat_tests}
use Rattle.std.proofs.lemmas.List.{length-map, map-append}
use Rattle.dash_base.specs.declared.id.ClusterId.{ClusterId}
use Rattle.dash_base.specs.declared.id.HartId.{HartId}
use Rattle.dash_base.specs.declared.id.WordAddr.{WordAddr}
use Rattle.dash_base.specs.Places.{home_among}
use Rattle.dash_msg.specs.declared.msg.Msg.{Msg}
use Rattle.dash_msg.specs.declared.msg.Msg.TheVariants.{LockAsk, Unlock}
use Rattle.dash_event.specs.declared.event.Kind.TheVariants as kind
use Rattle.queue_lock.specs.declared.waiter.Waiter.{Waiter as Asker}
use Rattle.queue_lock.specs.View.{LocksView, is_own, lock_at, with_lock, waiting, waiting_at, total, Lock as LockView}
use Rattle.queue_lock.specs.Steps.{asked, after_ask}
use Rattle.queue_lock.proofs.LawsOffered.{at_here, at_others, is_own-with_lock}
use Rattle.dash_model.specs.Maps.{upd}
use Rattle.dash_model.specs.Maps as model
use Rattle.dash_model.specs.Config.{Config, all_harts, is_lock, lock_home}
use Rattle.dash_model.specs.Config as config
use Rattle.dash_model.specs.Part.{Waiter, Lock, Part}
use Rattle.dash_model.specs.LockRows.{own_queue, queued}
use Rattle.dash_model.specs.LockRows as rows
use Rattle.dash_model.specs.HartRows.{PartEffect, quiet}
use Rattle.dash_model.specs.Row.{msg_row_if, row}
use Rattle.dash_model.specs.Ranges.{has_hart, own_lock, applies}
use Rattle.dash_model.specs.Guard.{Guard}
use Rattle.unit_rows.specs.Shown.{PartsView, waiter_by, lock_by, Shows, AreSized}
use Rattle.unit_rows.specs.Rows.{Happens}
use Rattle.unit_rows.specs.Takes.{Takes}
use Rattle.unit_rows.specs.LockWords.{own_number}
use Rattle.unit_rows.proofs.Same.{at_upd}
use Rattle.unit_rows.proofs.LineTakes.{idle, takes_nothing}

-- the parts with other lock words
abbrev pub with_locks : PartsView → LocksView → PartsView
with_locks v locks = record v { locks = locks }

pub shows_lock : (w : Config) (c : ℕ) (v : PartsView) (p : Part) (i : ℕ) (l : LockView) → Shows w c v p → Shows w c (with_locks v (with_lock v.locks i l)) (record p { locks = upd p.locks i (lock_by l) })
shows_lock w c v p i l s = record {
  harts = s.harts;
  copies = s.copies;
  slots = s.slots;
  acks = s.acks;
  homes = s.homes;
  locks = λ j own. at_upd (λ (x : Lock). x ≡ lock_by (lock_at (with_lock v.locks i l) j)) p.locks i j (lock_by l)
      (λ e. ap lock_by (sym (at_here v.locks i l) ∙ ap (lock_at (with_lock v.locks i l)) (sym e)))
      (λ n. s.locks j (sym (is_own-with_lock v.locks i j l) ∙ own) ∙ ap lock_by (sym (at_others v.locks i j l n)));
}

sizes_stay : (v : LocksView) (i : ℕ) (l : LockView) → ((with_lock v i l).cluster ≡ v.cluster) × ((with_lock v i l).clusters ≡ v.clusters) × ((with_lock v i l).locks ≡ v.locks) × ((with_lock v i l).harts ≡ v.harts)
unfolding with_lock
sizes_stay v i l = (refl, refl, refl, refl)

pub sized_locks : (w : Config) (c : ℕ) (v : PartsView) (i : ℕ) (l : LockView) → AreSized w c v → AreSized w c (with_locks v (with_lock v.locks i l))
sized_locks w c v i l s =
    let same = sizes_stay v.locks i l in
    record {
      locals = s.locals;
      buffers = s.buffers;
      fronts = s.fronts;
      bus_harts = s.bus_harts;
      l1 = s.l1;
      l2 = s.l2;
      slot_harts = s.slot_harts;
      slot_count = s.slot_count;
      slots_in_range = s.slots_in_range;
      acks = s.acks;
      acks_in_range = s.acks_in_range;
      home_cluster = s.home_cluster;
      home_clusters = s.home_clusters;
      home_lines = s.home_lines;
      lock_cluster = same.0 ∙ s.lock_cluster;
      lock_clusters = same.1 ∙ s.lock_clusters;
      lock_words = same.2 ∙ s.lock_words;
      lock_harts = same.3 ∙ s.lock_harts;
    }

-- a lock word of this home, by its address and by its number
pub own_is : (w : Config) (c : ℕ) (v : PartsView) (i : ℕ) → AreSized w c v → is_own v.locks i ≡ nat_lt i w.top.locks && (lock_home w i == c)
own_is w c v i s = ap₂ (λ n t. nat_lt i n && t) s.lock_words (ap₂ (λ n k. home_among n i == k) s.lock_clusters s.lock_cluster)

number_low : (a start n : ℕ) → (nat_le start a && nat_lt a (start + 4 * n)) && (a % 4 == 0) ≡ true → nat_lt ((a - start) / 4) n ≡ true
number_low a start n e =
    let low : start ≤ a = grind (arith, nat_tests) in
    let high : a < start + 4 * n = grind (arith, nat_tests) in
    let below : (a - start) / 4 < n = omega arith in
    grind (arith, nat_tests)

second : (a b d : Bool) → a && b ≡ true → (a ≡ true → d ≡ true) → d && b ≡ true
second true b d e f = ap (λ x. x && b) (f refl) ∙ e
second false b d e f = absurd (cc)

pub own_of : (w : Config) (c : ℕ) (v : PartsView) (word : WordAddr) → AreSized w c v → own_lock w c word ≡ true → is_own v.locks (config.lock_at w word.0) ≡ true
own_of w c v word s e = own_is w c v (config.lock_at w word.0) s ∙ second (is_lock w word.0) (lock_home w (config.lock_at w word.0) == c) (nat_lt (config.lock_at w word.0) w.top.locks) e (number_low word.0 (w.top.base + w.top.memory) w.top.locks)

-- what a number found tells
pub record Found (w : Config) (c : ℕ) (word : WordAddr) (i : ℕ) : Type 0 where
  pub own : own_lock w c word ≡ true
  pub number : config.lock_at w word.0 ≡ i

found_by : (a i : ℕ) (b : Bool) → cond b (Some a) None ≡ Some i → (b ≡ true) × (a ≡ i)
found_by a i true e = (refl, cc)
found_by a i false e = absurd (cc)

pub found : (w : Config) (c : ℕ) (word : WordAddr) (i : ℕ) → own_number w c word ≡ Some i → Found w c word i
found w c word i e = let is = found_by (config.lock_at w word.0) i (own_lock w c word) e in record { own = is.0; number = is.1 }

no_option : ℕ → Option ℕ
no_option a = None

lost_by : (a : ℕ) (b : Bool) → cond b (Some a) (no_option a) ≡ no_option a → b ≡ false
unfolding no_option
lost_by a true e = absurd (cc)
lost_by a false e = refl

pub not_found : (w : Config) (c : ℕ) (word : WordAddr) → own_number w c word ≡ None → own_lock w c word ≡ false
unfolding no_option
not_found w c word e = lost_by (config.lock_at w word.0) (own_lock w c word) e

-- as many wait
totals_same : (f g : ℕ → ℕ) (n : ℕ) → ((i : ℕ) → i < n → f i ≡ g i) → model.total f n ≡ total g n
unfolding model.total total
totals_same f g zero e = refl
totals_same f g (suc n) e = ap₂ (λ a b. a + b) (e n (omega arith)) (totals_same f g n (λ i low. e i (omega arith)))

queue_if : (b t : Bool) (q : List Waiter) (xs : List Asker) → b ≡ t → (t ≡ true → length q ≡ length xs) → cond b (length q) 0 ≡ cond t (length xs) 0
queue_if b true q xs e f = ap (λ x. cond x (length q) 0) e ∙ f refl
queue_if b false q xs e f = ap (λ x. cond x (length q) 0) e

queue_same : (w : Config) (c : ℕ) (v : PartsView) (p : Part) (i : ℕ) → AreSized w c v → Shows w c v p → i < w.top.locks → own_queue w c p i ≡ waiting_at v.locks i
queue_same w c v p i s shows low =
    let in_range : nat_lt i w.top.locks ≡ true = grind (arith, nat_tests) in
    queue_if (lock_home w i == c) (is_own v.locks i) (p.locks i).queue (lock_at v.locks i).queue
    (sym (own_is w c v i s ∙ ap (λ b. b && (lock_home w i == c)) in_range))
    (λ own. ap (λ (x : Lock). length x.queue) (shows.locks i own) ∙ length-map (lock_at v.locks i).queue waiter_by)

pub waiting_is : (w : Config) (c : ℕ) (v : PartsView) (p : Part) → AreSized w c v → Shows w c v p → rows.waiting w c p ≡ waiting v.locks
waiting_is w c v p s shows = totals_same (own_queue w c p) (waiting_at v.locks) w.top.locks (λ i low. queue_same w c v p i s shows low) ∙ ap (total (waiting_at v.locks)) (sym s.lock_words)

-- LockAsk: the hart waits behind the others
space_is : (w : Config) (c : ℕ) (v : PartsView) (p : Part) → AreSized w c v → Shows w c v p → nat_lt (rows.waiting w c p) (all_harts w) ≡ nat_lt (waiting v.locks) v.locks.harts
space_is w c v p s shows = ap₂ nat_lt (waiting_is w c v p s shows) (sym s.lock_harts)

all_three : (a b d : Bool) → a ≡ true → b ≡ true → d ≡ true → (a && b) && d ≡ true
all_three true true true e f g = refl
all_three true true false e f g = absurd (cc)
all_three true false d e f g = absurd (cc)
all_three false b d e f g = absurd (cc)

asked_by : (w : Config) (i : ℕ) (x : Asker) (l : LockView) (m : Lock) → m ≡ lock_by l → (record m { queue = m.queue ++ waiter_by x ∷ [] }) ≡ lock_by (asked x l)
asked_by w i x l m e = ap (λ (y : Lock). record y { queue = y.queue ++ waiter_by x ∷ [] }) e ∙ ap (λ q. record { value = l.value; count = l.count; queue = q }) (sym (map-append waiter_by l.queue (x ∷ [])))

abbrev asks : Asker → WordAddr → Msg
asks x word = LockAsk x.hart x.number word x.value

module _ (w : Config) (c : ℕ) (v : PartsView) (from : ClusterId) (x : Asker) (word : WordAddr) (i : ℕ) (s : AreSized w c v) (hart : has_hart w x.hart ≡ true) (at : own_number w c word ≡ Some i) (room : nat_lt (waiting v.locks) v.locks.harts ≡ true) where
  applied : (p : Part) → Shows w c v p → applies w c (asks x word) p ≡ true
  applied p shows = all_three (has_hart w x.hart) (own_lock w c word) (nat_lt (rows.waiting w c p) (all_harts w)) hart (found w c word i at).own (space_is w c v p s shows ∙ room)

  turned : (p : Part) → Shows w c v p → Shows w c (with_locks v (after_ask v.locks i x)) (queued (config.lock_at w word.0) (waiter_by x) p)
  turned p shows =
      let is = found w c word i at in
      let own : is_own v.locks i ≡ true = subst (λ j. is_own v.locks j ≡ true) is.number (own_of w c v word s is.own) in
      subst (λ j. Shows w c (with_locks v (after_ask v.locks i x)) (queued j (waiter_by x) p)) (sym is.number)
      (subst (λ (y : Lock). Shows w c (with_locks v (after_ask v.locks i x)) (record p { locks = upd p.locks i y })) (sym (asked_by w i x (lock_at v.locks i) (p.locks i) (shows.locks i own)))
      (shows_lock w c v p i (asked x (lock_at v.locks i)) shows))

  happens : (p : Part) → Shows w c v p → Happens w c (kind.Take from (asks x word)) (idle w) (with_locks v (after_ask v.locks i x)) [] p
  unfolding Guard row
  happens p shows =
      let row_is : msg_row_if (applies w c (asks x word) p) w c from.0 (asks x word) (idle w) p ≡ quiet (queued (config.lock_at w word.0) (waiter_by x) p) = ap (λ b. msg_row_if b w c from.0 (asks x word) (idle w) p) (applied p shows) in
      record {
        guard = tt;
        shows = subst (λ (y : PartEffect). Shows w c (with_locks v (after_ask v.locks i x)) y.part) (sym row_is) (turned p shows);
        sent_is = ap (λ (y : PartEffect). y.sent) row_is;
      }

  pub takes_ask : Takes w c from (LockAsk x.hart x.number word x.value) v (with_locks v (after_ask v.locks i x)) []
  takes_ask = record { is_of = (refl, refl); does = record { done = idle w; happens = happens } }

-- where its numbers are out of range, or nobody more may wait, nothing changes
no_hart : (a b d : Bool) → a ≡ false → (a && b) && d ≡ false
no_hart true b d e = absurd (cc)
no_hart false b d e = refl

no_word : (a b d : Bool) → b ≡ false → (a && b) && d ≡ false
no_word true true d e = absurd (cc)
no_word true false d e = refl
no_word false b d e = refl

no_room : (a b d : Bool) → d ≡ false → (a && b) && d ≡ false
no_room true true d e = e
no_room true false d e = refl
no_room false b d e = refl

module _ (w : Config) (c : ℕ) (v : PartsView) (from : ClusterId) (x : Asker) (word : WordAddr) (s : AreSized w c v) where
  pub ask_no_hart : has_hart w x.hart ≡ false → Takes w c from (LockAsk x.hart x.number word x.value) v v []
  ask_no_hart none = takes_nothing w c from (LockAsk x.hart x.number word x.value) v (λ p shows. tt) (λ p shows. no_hart (has_hart w x.hart) (own_lock w c word) (nat_lt (rows.waiting w c p) (all_harts w)) none)

  pub ask_no_word : own_number w c word ≡ None → Takes w c from (LockAsk x.hart x.number word x.value) v v []
  ask_no_word none = takes_nothing w c from (LockAsk x.hart x.number word x.value) v (λ p shows. tt) (λ p shows. no_word (has_hart w x.hart) (own_lock w c word) (nat_lt (rows.waiting w c p) (all_harts w)) (not_found w c word none))

  pub ask_no_room : nat_lt (waiting v.locks) v.locks.harts ≡ false → Takes w c from (LockAsk x.hart x.number word x.value) v v []
  ask_no_room none = takes_nothing w c from (LockAsk x.hart x.number word x.value) v (λ p shows. tt) (λ p shows. no_room (has_hart w x.hart) (own_lock w c word) (nat_lt (rows.waiting w c p) (all_harts w)) (space_is w c v p s shows ∙ none))

-- an Unlock that this home doesn't serve only leaves its lane
not_served : (a b : Bool) → a && b ≡ false → (a && b) && true ≡ false
not_served true true e = absurd (cc)
not_served true false e = refl
not_served false b e = refl

pub takes_unlock : (w : Config) (c : ℕ) (v : PartsView) (from : ClusterId) (h : HartId) (n : ℕ) (word : WordAddr) → has_hart w h && own_lock w c word ≡ false → Takes w c from (Unlock h n word) v v []
takes_unlock w c v from h n word none = takes_nothing w c from (Unlock h n word) v (λ p shows. none) (λ p shows. not_served (has_hart w h) (own_lock w c word) none)
