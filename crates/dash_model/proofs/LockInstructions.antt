-- Each lock message on its way to a home, and each waiter in a queue, is of the next instruction of its hart.
use Rattle.std.proofs.Common.{Bool, List, [], ap, arith, cond, false, refl, subst, sym, true, ℕ, ◌++◌, ◌+◌, ◌<◌, ◌==◌, ◌∙◌, ◌∷◌, ◌≡◌}
use Rattle.dash_base.specs.declared.id.WordAddr.{WordAddr}
use Rattle.dash_base.specs.declared.need.Need.{Need}
use Rattle.dash_base.specs.declared.need.Need.TheVariants as needed
use Rattle.dash_msg.specs.Classes.{class_of}
use Rattle.dash_msg.specs.declared.msg.Msg.{Msg}
use Rattle.dash_msg.specs.declared.msg.Msg.TheVariants.{LockAsk, Unlock}
use Rattle.dash_msg.specs.declared.parcel.Sent.{Sent}
use Rattle.dash_event.specs.declared.event.Event.{Event}
use Rattle.dash_event.specs.declared.event.Kind.{Kind}
use Rattle.dash_event.specs.declared.event.Kind.TheVariants as kind
use Rattle.hart_core.proofs.LawsOffered.{needs_of, one_need}
use Rattle.hart_core.specs.HartState.{HartState}
use Rattle.hart_core.specs.Meaning.{Does, Needs}
use Rattle.dash_model.specs.Cases.{TakesWell}
use Rattle.dash_model.specs.Config.{Config, cluster_of, is_lock, lock_at, lock_home}
use Rattle.dash_model.specs.Guard.{Guard}
use Rattle.dash_model.specs.HartGuards.{LockSends}
use Rattle.dash_model.specs.HartRows.{HartEffect, PartEffect}
use Rattle.dash_model.specs.LockFacts.{IsLock, asking, is_waiter, of_hart, of_hart_msg, places_of, queue_of}
use Rattle.dash_model.specs.Machine.{AtHead, CanHappen, Machine, Reaches, Step, after, less, opening, part_after, taken}
use Rattle.dash_model.specs.Maps.{most, raised, weigh}
use Rattle.dash_model.specs.Net.{Packet, parcel}
use Rattle.dash_model.specs.OnLine.{is_of, one}
use Rattle.dash_model.specs.Part.{Lock, Part, Processor, Waiter}
use Rattle.dash_model.specs.Ranges.{has_hart, own_lock}
use Rattle.dash_model.specs.Row.{row}
use Rattle.dash_model.proofs.Along.{AllAre}
use Rattle.dash_model.proofs.Each.{Each, EachSent, each_member, less_each, send_each}
use Rattle.dash_model.proofs.HartRuns.{hart_at}
use Rattle.dash_model.proofs.HartSteps.{Answered, HartStep, Rests, Sends as Posts, Works, hart_step}
use Rattle.dash_model.proofs.InRuns.{in_runs}
use Rattle.dash_model.proofs.LockBalance.{lock_below, lock_there}
use Rattle.dash_model.proofs.LockCases.{OneEach, on_its_way}
use Rattle.dash_model.proofs.LockFacts.{cases_apply, idle_elsewhere, one_each, one_step, opening_one}
use Rattle.dash_model.proofs.LockViews.{Drops, Freed, Frees, Granted, Grants, LockView, Plain, Sends, Waits, lock_view}
use Rattle.dash_model.proofs.Tests.{both_left, both_right, is_same, not_same, one_same}
use Rattle.dash_model.proofs.Totals.{term_le}

-- the hart's next instruction is of this number, and needs this
pub record IsNextOf (w : Config) (s : HartState) (number : ℕ) (need : Need) : Type 0 where
  pub number_is : number ≡ s.retired + 1
  pub needs : Needs w.image w.top s need

-- what hart h in this state sent to a home
abbrev pub AskOf : Config → ℕ → HartState → Msg → Type 0
AskOf w h s (LockAsk t n word v) = t.0 ≡ h → IsNextOf w s n (needed.Ask word v)
AskOf w h s (Unlock t n word) = t.0 ≡ h → IsNextOf w s n (needed.Unlock word)
AskOf w h s m = Unit {0}

-- a waiter for lock word i waits for its next instruction
pub record WaitsFor (w : Config) (s : HartState) (i : ℕ) (x : Waiter) : Type 0 where
  pub word : WordAddr
  pub lock : is_lock w word.0 ≡ true
  pub at : lock_at w word.0 ≡ i
  pub next : IsNextOf w s x.number (needed.Ask word x.value)

abbrev pub AllWait : Config → ℕ → HartState → ℕ → List Waiter → Type 0
AllWait w h s i [] = Unit {0}
AllWait w h s i (x ∷ xs) = (x.hart ≡ h → WaitsFor w s i x) × AllWait w h s i xs

abbrev pub core_at : Config → Machine → ℕ → HartState
core_at w m h = (hart_at w m h).core

-- all that hart h sent to a home, and its places in queues, are of its next instruction, where its core is s
pub record Asks (w : Config) (h : ℕ) (s : HartState) (m : Machine) : Type 0 where
  pub net : Each (λ c x. AskOf w h s x) m.net
  pub queues : (i : ℕ) → i < w.top.locks → AllWait w h s i (queue_of w m i)

module _ (w : Config) (h : ℕ) (s : HartState) where
  -- messages of lines
  line_asks : (k : ℕ) (m : Msg) → is_of k m ≡ true → AskOf w h s m
  line_asks k (LockAsk t n word v) e = absurd (cc)
  line_asks k (Unlock t n word) e = absurd (cc)
  line_asks k _ e = tt

  lines_ask : (k : ℕ) (ss : List Sent) → AllAre k true ss → EachSent (λ c x. AskOf w h s x) ss
  lines_ask k [] a = tt
  lines_ask k (x ∷ xs) a = (line_asks k x.msg a.0, lines_ask k xs a.1)

  -- the lock message that a hart sends
  send_asks : (g : ℕ) (m : Msg) (need : Need) (p : Part) → (g ≡ h → (p.harts g).core ≡ s) → Needs w.image w.top (p.harts g).core need → LockSends g m need p → AskOf w h s m
  send_asks g m (needed.Ask word value) p core needs sends = subst (AskOf w h s) (sym sends) (λ e. subst (λ z. IsNextOf w z ((p.harts g).core.retired + 1) (needed.Ask word value)) (core e) (record { number_is = refl; needs = needs }))
  send_asks g m (needed.Unlock word) p core needs sends = subst (AskOf w h s) (sym sends.0) (λ e. subst (λ z. IsNextOf w z ((p.harts g).core.retired + 1) (needed.Unlock word)) (core e) (record { number_is = refl; needs = needs }))
  send_asks g m _ p core needs sends = absurd sends

  more_wait : (i : ℕ) (xs : List Waiter) (x : Waiter) → AllWait w h s i xs → (x.hart ≡ h → WaitsFor w s i x) → AllWait w h s i (xs ++ x ∷ [])
  more_wait i [] x a k = (k, tt)
  more_wait i (y ∷ ys) x a k = (a.0, more_wait i ys x a.1 k)

  -- the queues of cluster c's lock words
  abbrev Queues : ℕ → Part → Type 0
  Queues c p = (i : ℕ) → i < w.top.locks → lock_home w i ≡ c → AllWait w h s i (p.locks i).queue

  one_queue : (c : ℕ) (p : Part) (k v n : ℕ) (q : List Waiter) → Queues c p → AllWait w h s k q → (i : ℕ) (b : Bool) → (i == k) ≡ b → i < w.top.locks → lock_home w i ≡ c → AllWait w h s i (cond b (record { value = v; count = n; queue = q }) (p.locks i)).queue
  one_queue c p k v n q all new i true is low home = subst (λ y. AllWait w h s y q) (sym (is_same i k is)) new
  one_queue c p k v n q all new i false is low home = all i low home

  as_queues : (c : ℕ) (p r : Part) → r.locks ≡ p.locks → Queues c p → Queues c r
  as_queues c p r e q i low home = subst (λ (f : ℕ → Lock). AllWait w h s i (f i).queue) (sym e) (q i low home)

  -- what an event sends, and leaves in the queues, where the message that it takes is one of these
  record Leaves (c : ℕ) (r : PartEffect) : Type 0 where
    pub sent : EachSent (λ a x. AskOf w h s x) r.sent
    pub queues : Queues c r.part

  -- what an event takes
  abbrev TookOne : Kind → Type 0
  TookOne (kind.Take f m) = AskOf w h s m
  TookOne e = Unit {0}

  leaves : (c : ℕ) (p : Part) (e : Kind) (r : PartEffect) → ((g : ℕ) → cluster_of w g ≡ c → g ≡ h → (p.harts g).core ≡ s) → TookOne e → Queues c p → LockView w c p e r → Leaves c r
  leaves c p _ _ core took q (Plain e r k) = record { sent = lines_ask k.line r.sent k.sent; queues = as_queues c p r.part k.locks q }
  leaves c p _ _ core took q (Sends g m need z mine needs sends l) = record { sent = (send_asks g.0 m need p (core g.0 mine) needs sends, tt); queues = as_queues c p z l q }
  leaves c p _ _ core took q (Grants a x xs own is mine) =
      let i = lock_at w a.word.0 in
      record { sent = (tt, tt); queues = λ k low home. one_queue c p i x.value (raised most (p.locks i).count) xs q (subst (AllWait w h s i) is (q i (lock_below w c a.word own) (is_same (lock_home w i) c (lock_there w c a.word own)))).1 k (k == i) refl low home }
  leaves c p _ _ core took q (Frees f a serves) =
      let i = lock_at w a.word.0 in
      let own = both_right (has_hart w a.hart) (own_lock w c a.word) serves in
      record { sent = (tt, tt); queues = λ k low home. one_queue c p i 0 (raised most (p.locks i).count) (p.locks i).queue q (q i (lock_below w c a.word own) (is_same (lock_home w i) c (lock_there w c a.word own))) k (k == i) refl low home }
  leaves c p _ _ core took q (Waits f t n word v range) =
      let i = lock_at w word.0 in
      let own = both_right (has_hart w t) (own_lock w c word) range in
      let x : Waiter = record { hart = t.0; number = n; value = v } in
      let all = more_wait i (p.locks i).queue x (q i (lock_below w c word own) (is_same (lock_home w i) c (lock_there w c word own))) (λ e. record { word = word; lock = both_left (is_lock w word.0) (lock_home w i == c) own; at = refl; next = took e }) in
      record { sent = tt; queues = λ k low home. one_queue c p i (p.locks i).value (p.locks i).count ((p.locks i).queue ++ x ∷ []) q all k (k == i) refl low home }
  leaves c p _ _ core took q (Granted f t z l) = record { sent = tt; queues = as_queues c p z l q }
  leaves c p _ _ core took q (Freed f t old z l) = record { sent = tt; queues = as_queues c p z l q }
  leaves c p _ _ core took q (Drops f m none) = record { sent = tt; queues = q }

  took_one : (c u : ℕ) (e : Kind) (net : List Packet) → AtHead (taken c u e) net → Each (λ a x. AskOf w h s x) net → TookOne e
  took_one c u (kind.Take f m) net first all = each_member (λ a x. AskOf w h s x) (parcel f.0 c m u) net (on_its_way f.0 c (class_of m) (parcel f.0 c m u) net first) all
  took_one c u _ net first all = tt

  queue_by : (m : Machine) (c : ℕ) (q : Part) (i : ℕ) (b : Bool) → (lock_home w i == c) ≡ b → i < w.top.locks → Queues c q → AllWait w h s i (queue_of w m i) → AllWait w h s i ((cond b q (m.parts (lock_home w i))).locks i).queue
  queue_by m c q i true is low new all = new i low (is_same (lock_home w i) c is)
  queue_by m c q i false is low new all = all

  -- a hart that stays as it is
  asks_on : (m : Machine) (g : Step) → CanHappen w m g → core_at w m h ≡ s → Asks w h s m → Asks w h s (after w m g)
  asks_on m g can is k =
      let c = g.event.cluster.0 in
      let e = g.event.kind in
      let p = m.parts c in
      let d = row w c e g.done p in
      let core : (g : ℕ) → cluster_of w g ≡ c → g ≡ h → (p.harts g).core ≡ s = λ y mine same. ap (λ z. ((m.parts z).harts y).core) (sym mine) ∙ ap (core_at w m) same ∙ is in
      let left = leaves c p e d core (took_one c g.stamp e m.net can.head k.net) (λ i low home. subst (λ y. AllWait w h s i ((m.parts y).locks i).queue) home (k.queues i low)) (lock_view w c e g.done p can.steps.guard) in
      record {
        net = send_each (λ a x. AskOf w h s x) g.event.stamp c (less (taken c g.stamp e) m.net) d.sent (less_each (λ a x. AskOf w h s x) (taken c g.stamp e) m.net k.net) left.sent;
        queues = λ i low. queue_by m c (record d.part { last = g.event.stamp }) i (lock_home w i == c) refl low left.queues (k.queues i low);
      }

  -- where it has no lock message on its way and no place in a queue
  none_asks : (m : Msg) → of_hart_msg h m ≡ 0 → AskOf w h s m
  none_asks (LockAsk t n word v) none = λ e. (let some : of_hart_msg h (LockAsk t n word v) ≡ 1 = ap (λ y. one t.0 y) (sym e) ∙ one_same t.0 in absurd (omega arith))
  none_asks (Unlock t n word) none = λ e. (let some : of_hart_msg h (Unlock t n word) ≡ 1 = ap (λ y. one t.0 y) (sym e) ∙ one_same t.0 in absurd (omega arith))
  none_asks _ none = tt

  none_each : (net : List Packet) → weigh (of_hart h) net ≡ 0 → Each (λ a x. AskOf w h s x) net
  unfolding weigh
  none_each [] e = tt
  none_each (q ∷ qs) e = (none_asks q.msg (omega arith), none_each qs (omega arith))

  none_wait : (i : ℕ) (xs : List Waiter) → weigh (is_waiter h) xs ≡ 0 → AllWait w h s i xs
  unfolding weigh
  none_wait i [] e = tt
  none_wait i (x ∷ xs) e = ((λ same. (let some : is_waiter h x ≡ 1 = ap (λ y. one x.hart y) (sym same) ∙ one_same x.hart in absurd (omega arith))), none_wait i xs (omega arith))

  no_asks : (m : Machine) → weigh (of_hart h) m.net ≡ 0 → places_of w m h ≡ 0 → Asks w h s m
  no_asks m none places = record { net = none_each m.net none; queues = λ i low. none_wait i (queue_of w m i) ((let le = term_le (λ i. weigh (is_waiter h) (queue_of w m i)) i w.top.locks low in omega arith)) }

module _ (w : Config) (h : ℕ) (s t : HartState) (need : Need) (x : ℕ) (does : Does w.image w.top s need x t) (other : IsLock need → ⊥) where
  -- a hart that does another instruction asked for none
  pub not_next : (n : ℕ) (lock : Need) → IsLock lock → IsNextOf w s n lock → ⊥
  not_next n lock is next = other (subst IsLock (one_need w.image w.top s lock need next.needs (needs_of w.image w.top s t need x does)) is)

  moved_ask : (m : Msg) → AskOf w h s m → AskOf w h t m
  moved_ask (LockAsk g n word v) k = λ e. absurd (not_next n (needed.Ask word v) tt (k e))
  moved_ask (Unlock g n word) k = λ e. absurd (not_next n (needed.Unlock word) tt (k e))
  moved_ask _ k = tt

  moved_each : (net : List Packet) → Each (λ a x. AskOf w h s x) net → Each (λ a x. AskOf w h t x) net
  moved_each [] k = tt
  moved_each (q ∷ qs) k = (moved_ask q.msg k.0, moved_each qs k.1)

  moved_wait : (i : ℕ) (xs : List Waiter) → AllWait w h s i xs → AllWait w h t i xs
  moved_wait i [] k = tt
  moved_wait i (y ∷ ys) k = ((λ e. (let f = k.0 e in absurd (not_next y.number (needed.Ask f.word y.value) tt f.next))), moved_wait i ys k.1)

  moved_asks : (m : Machine) → Asks w h s m → Asks w h t m
  moved_asks m k = record { net = moved_each m.net k.net; queues = λ i low. moved_wait i (queue_of w m i) (k.queues i low) }

-- what becomes of each hart of the machine
hart_by : (w : Config) (m : Machine) (c : ℕ) (e : Kind) (d : HartEffect) (h : ℕ) (q : Part) (b : Bool) → (cluster_of w h == c) ≡ b → q.harts ≡ (row w c e d (m.parts c)).part.harts → Guard w c e d (m.parts c) → TakesWell w c e (m.parts c)
    → HartStep w e h (hart_at w m h) ((cond b q (m.parts (cluster_of w h))).harts h)
hart_by w m c e d h q true is harts can well =
    subst (λ (f : ℕ → Processor). HartStep w e h (hart_at w m h) (f h)) (sym harts) (subst (λ y. HartStep w e h ((m.parts y).harts h) ((row w c e d (m.parts c)).part.harts h)) (sym (is_same (cluster_of w h) c is)) (hart_step w c e d (m.parts c) h can well))
hart_by w m c e d h q false is harts can well = Rests (idle_elsewhere w c e d (m.parts c) h can well (not_same (cluster_of w h) c is)) refl refl

pub each_hart : (w : Config) (log : List Event) (m : Machine) (g : Step) → Reaches w log m → CanHappen w m g → (h : ℕ) → HartStep w g.event.kind h (hart_at w m h) (hart_at w (after w m g) h)
each_hart w log m g r can h =
    let c = g.event.cluster.0 in
    hart_by w m c g.event.kind g.done h (part_after w c g (m.parts c)) (cluster_of w h == c) refl refl can.steps.guard (cases_apply w log m g r can)

-- the same of each hart
abbrev pub EachAsks : Config → Machine → Type 0
EachAsks w m = (h : ℕ) → Asks w h (core_at w m h) m

asks_by : (w : Config) (e : Kind) (h : ℕ) (s t : Processor) (m : Machine) → (t.asked ≡ false → (weigh (of_hart h) m.net ≡ 0) × (places_of w m h ≡ 0)) → HartStep w e h s t → Asks w h s.core m → Asks w h t.core m
asks_by w e h s t m none (Rests i c a) k = subst (λ z. Asks w h z m) (sym c) k
asks_by w e h s t m none (Works i need x does other a) k = moved_asks w h s.core t.core need x does other m k
asks_by w e h s t m none (Posts i j c a b n) k = subst (λ z. Asks w h z m) (sym c) k
asks_by w e h s t m none (Answered i j need x does a b) k = let z = none b in no_asks w h t.core m z.0 z.1

none_left : (a n k : ℕ) → n + k ≡ a → a ≡ 0 → (n ≡ 0) × (k ≡ 0)
none_left a n k e z = (omega arith, omega arith)

asks_step : (w : Config) (log : List Event) (m : Machine) (g : Step) → Reaches w log m → CanHappen w m g → OneEach w (after w m g) → EachAsks w m → EachAsks w (after w m g)
asks_step w log m g r can one k h =
    asks_by w g.event.kind h (hart_at w m h) (hart_at w (after w m g) h) (after w m g) (λ no. none_left (asking w (after w m g) h) (weigh (of_hart h) (after w m g).net) (places_of w (after w m g) h) (one h) (ap (λ b. cond b 1 0) no)) (each_hart w log m g r can h) (asks_on w h (core_at w m h) m g can refl (k h))

pub each_asks : (w : Config) (log : List Event) (m : Machine) → Reaches w log m → EachAsks w m
each_asks w log m r = in_runs w (λ es n. EachAsks w n) (λ h. (let z = none_left 0 (weigh (of_hart h) (opening w).net) (places_of w (opening w) h) (opening_one w h) refl in no_asks w h (core_at w (opening w) h) (opening w) z.0 z.1)) (λ es n g reached can k. asks_step w es n g reached can (one_step w es n g reached can (one_each w es n reached)) k) log m r
