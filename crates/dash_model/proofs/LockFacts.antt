-- In every run each hart whose lock instruction was sent has one lock message on its way or one place in a queue, and another hart none; so each message finds a case.
use Rattle.std.proofs.Common.{◌≡◌, ◌≢◌, ℕ, ◌+◌, ◌==◌, Bool, true, false, cond, List, [], ◌∷◌, map, refl, sym, ap, ◌∙◌, arith}
use Rattle.dash_base.specs.declared.id.ClusterId.{ClusterId}
use Rattle.dash_msg.specs.Classes.{class_of}
use Rattle.dash_msg.specs.declared.classes.Class.TheVariants.{Request}
use Rattle.dash_msg.specs.declared.msg.Msg.{Msg}
use Rattle.dash_msg.specs.declared.msg.Msg.TheVariants.{Unlock, LockGrant, UnlockAck}
use Rattle.dash_msg.specs.declared.parcel.Sent.{Sent}
use Rattle.dash_event.specs.declared.event.Event.{Event}
use Rattle.dash_event.specs.declared.event.Kind.{Kind}
use Rattle.dash_event.specs.declared.event.Kind.TheVariants as kind
use Rattle.dash_model.specs.Maps.{weigh}
use Rattle.dash_model.specs.Config.{Config, cluster_of, lock_home}
use Rattle.dash_model.specs.Net.{Packet, packet, parcel, send}
use Rattle.dash_model.specs.Part.{Processor, Part}
use Rattle.dash_model.specs.HartRows.{HartEffect}
use Rattle.dash_model.specs.Guard.{Guard}
use Rattle.dash_model.specs.Ranges.{has_hart}
use Rattle.dash_model.specs.Row.{row}
use Rattle.dash_model.specs.LockFacts.{of_hart, is_waiter, queue_of, places_of}
use Rattle.dash_model.specs.Cases.{FindsCase, TakesWell, CasesApply}
use Rattle.dash_model.specs.Machine.{Machine, Step, taken, AtHead, less, CanHappen, after, opening, Reaches}
use Rattle.dash_model.proofs.Tests.{is_same, not_same, both_right, one_other}
use Rattle.dash_model.proofs.Along.{changed}
use Rattle.dash_model.proofs.Weigh.{weigh-append, cut}
use Rattle.dash_model.proofs.Totals.{total_four, total_none}
use Rattle.dash_model.proofs.HartSteps.{asks_now, answers_now, Idle, HartStep, Rests, Works, Sends, Answered, hart_step}
use Rattle.dash_model.proofs.LockBalance.{takes_lock, sent_locks, own_at, own_places, balanced}
use Rattle.dash_model.proofs.LockCases.{OneEach, takes_well}
use Rattle.dash_model.proofs.InRuns.{in_runs}

-- 1 where the lock instruction was sent
abbrev asked_now : Processor → ℕ
asked_now s = cond s.asked 1 0

asked_by : (w : Config) (e : Kind) (h : ℕ) (s t : Processor) → HartStep w e h s t → asked_now t + answers_now e h ≡ asked_now s + asks_now e h
asked_by w e h s t (Rests i c a) = let x : asked_now t ≡ asked_now s = ap (λ b. cond b 1 0) a in let y = i.0 in let z = i.1 in omega arith
asked_by w e h s t (Works i n x d u a) = let x : asked_now t ≡ asked_now s = ap (λ b. cond b 1 0) a in let y = i.0 in let z = i.1 in omega arith
asked_by w e h s t (Sends i j c a b n) = let x : asked_now t ≡ 1 = ap (λ b. cond b 1 0) b in let y : asked_now s ≡ 0 = ap (λ b. cond b 1 0) a in omega arith
asked_by w e h s t (Answered i j n x d a b) = let y : asked_now t ≡ 0 = ap (λ b. cond b 1 0) b in let z : asked_now s ≡ 1 = ap (λ b. cond b 1 0) a in omega arith

-- a hart of another cluster is left
idle_msg : (w : Config) (c : ℕ) (f : ClusterId) (m : Msg) (p : Part) (h : ℕ) → FindsCase w c f.0 m p → cluster_of w h ≢ c → Idle (kind.Take f m) h
idle_msg w c f (LockGrant g) p h k d = (refl, one_other g.0 h (λ e. d (ap (cluster_of w) (sym e) ∙ is_same (cluster_of w g.0) c (both_right (has_hart w g) (cluster_of w g.0 == c) k.range))))
idle_msg w c f (UnlockAck g old) p h k d = (refl, one_other g.0 h (λ e. d (ap (cluster_of w) (sym e) ∙ is_same (cluster_of w g.0) c (both_right (has_hart w g) (cluster_of w g.0 == c) k.range))))
idle_msg w c f _ p h k d = (refl, refl)

pub idle_elsewhere : (w : Config) (c : ℕ) (e : Kind) (d : HartEffect) (p : Part) (h : ℕ) → Guard w c e d p → TakesWell w c e p → cluster_of w h ≢ c → Idle e h
unfolding Guard
idle_elsewhere w c (kind.LockSend g m) d p h can well differs = (one_other g.0 h (λ e. differs (ap (cluster_of w) (sym e) ∙ can.mine)), refl)
idle_elsewhere w c (kind.Take f m) d p h can well differs = idle_msg w c f m p h well differs
idle_elsewhere w c _ d p h can well differs = (refl, refl)

-- what is on its way
sent_weight : (h t c : ℕ) (ss : List Sent) → weigh (of_hart h) (map (packet t c) ss) ≡ sent_locks h ss
unfolding weigh
sent_weight h t c [] = refl
sent_weight h t c (s ∷ ss) = let rest = sent_weight h t c ss in omega arith

send_weight : (h t c : ℕ) (net : List Packet) (ss : List Sent) → weigh (of_hart h) (send net t c ss) ≡ weigh (of_hart h) net + sent_locks h ss
unfolding send
send_weight h t c net ss = let all = weigh-append (of_hart h) net (map (packet t c) ss) in let sent = sent_weight h t c ss in omega arith

less_weight : (h c u : ℕ) (e : Kind) (net : List Packet) → AtHead (taken c u e) net → weigh (of_hart h) (less (taken c u e) net) + takes_lock e h ≡ weigh (of_hart h) net
less_weight h c u (kind.Take f m) net first = cut f.0 c (class_of m) (parcel f.0 c m u) net first (of_hart h)
less_weight h c u (kind.Free f a) net first = cut f.0 c Request (parcel f.0 c (Unlock a.hart a.number a.word) u) net first (of_hart h)
less_weight h c u _ net first = omega arith

-- places in queues, where the part of cluster c becomes q
place_by : (w : Config) (m : Machine) (c h : ℕ) (q : Part) (i : ℕ) (b : Bool) → (lock_home w i == c) ≡ b
    → weigh (is_waiter h) ((cond b q (m.parts (lock_home w i))).locks i).queue + cond b (weigh (is_waiter h) ((m.parts c).locks i).queue) 0
    ≡ weigh (is_waiter h) (queue_of w m i) + cond b (weigh (is_waiter h) (q.locks i).queue) 0
place_by w m c h q i true e =
    let s : weigh (is_waiter h) ((m.parts c).locks i).queue ≡ weigh (is_waiter h) (queue_of w m i) = ap (λ y. weigh (is_waiter h) ((m.parts y).locks i).queue) (sym (is_same (lock_home w i) c e)) in
    omega arith
place_by w m c h q i false e = refl

places_after : (w : Config) (m : Machine) (c h : ℕ) (q : Part) (net : List Packet) (console : List ℕ)
    → places_of w (changed m c q net console) h + own_places w c (m.parts c) h ≡ places_of w m h + own_places w c q h
places_after w m c h q net console =
    total_four (λ i. weigh (is_waiter h) (queue_of w (changed m c q net console) i)) (own_at w c (m.parts c) h) (λ i. weigh (is_waiter h) (queue_of w m i)) (own_at w c q h) w.top.locks (λ i l. place_by w m c h q i (lock_home w i == c) refl)

asking_by : (w : Config) (m : Machine) (c : ℕ) (e : Kind) (d : HartEffect) (h : ℕ) (q : Part) (b : Bool) → (cluster_of w h == c) ≡ b → q.harts ≡ (row w c e d (m.parts c)).part.harts → Guard w c e d (m.parts c) → TakesWell w c e (m.parts c)
    → asked_now ((cond b q (m.parts (cluster_of w h))).harts h) + answers_now e h ≡ asked_now ((m.parts (cluster_of w h)).harts h) + asks_now e h
asking_by w m c e d h q true is harts can well =
    let mine = is_same (cluster_of w h) c is in
    let step = asked_by w e h ((m.parts c).harts h) ((row w c e d (m.parts c)).part.harts h) (hart_step w c e d (m.parts c) h can well) in
    let now : asked_now (q.harts h) ≡ asked_now ((row w c e d (m.parts c)).part.harts h) = ap (λ (f : ℕ → Processor). asked_now (f h)) harts in
    let was : asked_now ((m.parts (cluster_of w h)).harts h) ≡ asked_now ((m.parts c).harts h) = ap (λ y. asked_now ((m.parts y).harts h)) mine in
    omega arith
asking_by w m c e d h q false is harts can well =
    let idle = idle_elsewhere w c e d (m.parts c) h can well (not_same (cluster_of w h) c is) in
    let y = idle.0 in
    let z = idle.1 in
    omega arith

pub one_step : (w : Config) (log : List Event) (m : Machine) (g : Step) → Reaches w log m → CanHappen w m g → OneEach w m → OneEach w (after w m g)
one_step w log m g r can k h =
    let c = g.event.cluster.0 in
    let e = g.event.kind in
    let d = row w c e g.done (m.parts c) in
    let q : Part = record d.part { last = g.event.stamp } in
    let rest = less (taken c g.stamp e) m.net in
    let well = takes_well w log m g r k can in
    let even = (balanced w c e g.done (m.parts c) h can.steps.guard well).even in
    let sent = send_weight h g.event.stamp c rest d.sent in
    let left = less_weight h c g.stamp e m.net can.head in
    let places = places_after w m c h q (send rest g.event.stamp c d.sent) (after w m g).console in
    let asks = asking_by w m c e g.done h q (cluster_of w h == c) refl refl can.steps.guard well in
    let own : own_places w c q h ≡ own_places w c d.part h = refl in
    let before = k h in
    omega arith

pub opening_one : (w : Config) → OneEach w (opening w)
unfolding weigh
opening_one w h = let none = total_none (λ i. weigh (is_waiter h) (queue_of w (opening w) i)) w.top.locks (λ i l. refl) in omega arith

pub one_each : (w : Config) (log : List Event) (m : Machine) → Reaches w log m → OneEach w m
one_each w log m r = in_runs w (λ es n. OneEach w n) (opening_one w) (λ es n g reached can k. one_step w es n g reached can k) log m r

pub cases_apply : CasesApply
cases_apply w log m g r can = takes_well w log m g r (one_each w log m r) can
