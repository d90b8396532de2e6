-- Where each hart has one lock message or place in a queue exactly where it asked, lock messages find a case of their row; and so does each message.
use Rattle.std.proofs.Common.{◌≡◌, ℕ, ◌+◌, ◌≤◌, ◌<◌, ◌==◌, ◌&&◌, Bool, true, false, cond, nat_lt, Some, List, [], ◌∷◌, length, refl, sym, ap, subst, arith, inl, inr, ◌⊎◌}
use Rattle.dash_base.specs.declared.id.ClusterId.{ClusterId}
use Rattle.dash_base.specs.declared.id.HartId.{HartId}
use Rattle.dash_base.specs.declared.id.WordAddr.{WordAddr}
use Rattle.dash_msg.specs.Classes.{class_of}
use Rattle.dash_msg.specs.declared.classes.Class.{Class}
use Rattle.dash_msg.specs.declared.msg.Msg.{Msg}
use Rattle.dash_msg.specs.declared.msg.Msg.TheVariants.{LockAsk, Unlock, LockGrant, UnlockAck}
use Rattle.dash_event.specs.declared.access.Access.{Access}
use Rattle.dash_event.specs.declared.event.Event.{Event}
use Rattle.dash_event.specs.declared.event.Kind.{Kind}
use Rattle.dash_event.specs.declared.event.Kind.TheVariants as kind
use Rattle.dash_model.specs.Maps.{weigh}
use Rattle.dash_model.specs.Config.{Config, all_harts, cluster_of, lock_home}
use Rattle.dash_model.specs.Net.{Packet, parcel, in_lane, head}
use Rattle.dash_model.specs.Part.{Part}
use Rattle.dash_model.specs.HartRows.{HartEffect}
use Rattle.dash_model.specs.LockRows.{own_queue, waiting}
use Rattle.dash_model.specs.Ranges.{has_hart, own_lock, in_range}
use Rattle.dash_model.specs.Guard.{Guard, frees}
use Rattle.dash_model.specs.LineFacts.{IsOnItsWay}
use Rattle.dash_model.specs.LockFacts.{queue_of, of_hart, places_of, asking}
use Rattle.dash_model.specs.Machine.{Machine, Step, taken, AtHead, CanHappen, Reaches}
use Rattle.dash_model.specs.Cases.{FindsCase, TakesWell}
use Rattle.dash_model.proofs.Tests.{is_same, below, is_below, both_left, both_right, one_same, at_most_one}
use Rattle.dash_model.proofs.Weigh.{cut}
use Rattle.dash_model.proofs.LockRange.{locks_fit}
use Rattle.dash_model.proofs.InRange.{in_range_all}
use Rattle.dash_model.proofs.Totals.{total_le, fewer_wait}
use Rattle.dash_model.proofs.LineCases.{line_finds}

-- a hart whose lock instruction was sent has one lock message on its way or one place in a queue, and another hart none
abbrev pub OneEach : Config → Machine → Type 0
OneEach w m = (h : ℕ) → weigh (of_hart h) m.net + places_of w m h ≡ asking w m h

-- the head of a lane is on its way
head_by : (a b : ℕ) (k : Class) (q p : Packet) (ps : List Packet) (i : Bool) → cond i (Some p) (head a b k ps) ≡ Some q → (head a b k ps ≡ Some q → IsOnItsWay q ps) → (q ≡ p) ⊎ IsOnItsWay q ps
head_by a b k q p ps true e ih = inl (cc)
head_by a b k q p ps false e ih = inr (ih e)

pub on_its_way : (a b : ℕ) (k : Class) (q : Packet) (net : List Packet) → head a b k net ≡ Some q → IsOnItsWay q net
unfolding head
on_its_way a b k q [] e = absurd (cc)
on_its_way a b k q (p ∷ ps) e = head_by a b k q p ps (in_lane a b k p) e (on_its_way a b k q ps)

asked_true : (b : Bool) (n : ℕ) → 1 ≤ n → n ≤ cond b 1 0 → b ≡ true
asked_true true n l e = refl
asked_true false n l e = absurd (omega arith)

module _ (w : Config) (log : List Event) (m : Machine) (c f u : ℕ) (r : Reaches w log m) (k : OneEach w m) where
  -- a lock message of hart h that is first in its lane is all that there is of it
  only : (h : ℕ) (x : Msg) → head f c (class_of x) m.net ≡ Some (parcel f c x u) → of_hart h (parcel f c x u) ≡ 1 → (places_of w m h ≡ 0) × (((m.parts (cluster_of w h)).harts h).asked ≡ true)
  only h x first is =
      let n = cut f c (class_of x) (parcel f c x u) m.net first (of_hart h) in
      let e = k h in
      let most = at_most_one ((m.parts (cluster_of w h)).harts h).asked in
      (omega arith, asked_true ((m.parts (cluster_of w h)).harts h).asked (weigh (of_hart h) m.net) (omega arith) (omega arith))

  own_less_by : (i : ℕ) (b : Bool) → (lock_home w i == c) ≡ b → cond b (length ((m.parts c).locks i).queue) 0 ≤ length (queue_of w m i)
  own_less_by i true e = let s : length ((m.parts c).locks i).queue ≡ length (queue_of w m i) = ap (λ y. length ((m.parts y).locks i).queue) (sym (is_same (lock_home w i) c e)) in omega arith
  own_less_by i false e = omega arith

  -- the queues of this home have room for one waiter more
  has_room : (h : ℕ) → h < all_harts w → places_of w m h ≡ 0 → nat_lt (waiting w c (m.parts c)) (all_harts w) ≡ true
  has_room h low none =
      let all = fewer_wait w (queue_of w m) w.top.locks h low (λ i. (locks_fit w log m r).queues (lock_home w i) i) (λ x. (let e = k x in let most = at_most_one ((m.parts (cluster_of w x)).harts x).asked in omega arith)) none in
      let own = total_le (own_queue w c (m.parts c)) (λ i. length (queue_of w m i)) w.top.locks (λ i l. own_less_by i (lock_home w i == c) refl) in
      below (waiting w c (m.parts c)) (all_harts w) (omega arith)

  answered_there : (h : HartId) (x : Msg) → head f c (class_of x) m.net ≡ Some (parcel f c x u) → of_hart h.0 (parcel f c x u) ≡ 1 → has_hart w h && (cluster_of w h.0 == c) ≡ true → ((m.parts c).harts h.0).asked ≡ true
  answered_there h x first is e = subst (λ y. ((m.parts y).harts h.0).asked ≡ true) (is_same (cluster_of w h.0) c (both_right (has_hart w h) (cluster_of w h.0 == c) e)) (only h.0 x first is).1

  -- each message that is taken finds a case
  pub finds : (x : Msg) → head f c (class_of x) m.net ≡ Some (parcel f c x u) → in_range w c x ≡ true → ((h : HartId) (n : ℕ) (word : WordAddr) → x ≡ Unlock h n word → ⊥) → FindsCase w c f x (m.parts c)
  finds (LockAsk h n word v) first e other = record { range = e; room = has_room h.0 (is_below h.0 (all_harts w) (both_left (has_hart w h) (own_lock w c word) e)) (only h.0 (LockAsk h n word v) first (one_same h.0)).0; case = refl }
  finds (Unlock h n word) first e other = absurd (other h n word refl)
  finds (LockGrant h) first e other = record { range = e; room = refl; case = answered_there h (LockGrant h) first (one_same h.0) e }
  finds (UnlockAck h old) first e other = record { range = e; room = refl; case = answered_there h (UnlockAck h old) first (one_same h.0) e }
  finds x first e other = line_finds w log m c f u r x tt first e

-- an Unlock in range is not left to a Take
no_unlock : (w : Config) (c : ℕ) (f : ClusterId) (x : Msg) (d : HartEffect) (p : Part) → Guard w c (kind.Take f x) d p → in_range w c x ≡ true → (h : HartId) (n : ℕ) (word : WordAddr) → x ≡ Unlock h n word → ⊥
unfolding Guard
no_unlock w c f (Unlock t i a) d p g e h n word is = cc
no_unlock w c f _ d p g e h n word is = cc

free_serves : (w : Config) (c : ℕ) (f : ClusterId) (a : Access) (d : HartEffect) (p : Part) → Guard w c (kind.Free f a) d p → frees w c a.hart a.word ≡ true
unfolding Guard
free_serves w c f a d p g = g.serves

well_by : (w : Config) (log : List Event) (m : Machine) (c u : ℕ) (e : Kind) (d : HartEffect) → Reaches w log m → OneEach w m → Guard w c e d (m.parts c) → AtHead (taken c u e) m.net → TakesWell w c e (m.parts c)
well_by w log m c u (kind.Take f x) d r k g first =
    let range = in_range_all w log m (parcel f.0 c x u) r (on_its_way f.0 c (class_of x) (parcel f.0 c x u) m.net first) in
    finds w log m c f.0 u r k x first range (no_unlock w c f x d (m.parts c) g range)
well_by w log m c u (kind.Free f a) d r k g first = free_serves w c f a d (m.parts c) g
well_by w log m c u _ d r k g first = tt

-- each event takes a message that has a case here
pub takes_well : (w : Config) (log : List Event) (m : Machine) (g : Step) → Reaches w log m → OneEach w m → CanHappen w m g → TakesWell w g.event.cluster.0 g.event.kind (m.parts g.event.cluster.0)
takes_well w log m g r k can = well_by w log m g.event.cluster.0 g.stamp g.event.kind g.done r k can.steps.guard can.head
