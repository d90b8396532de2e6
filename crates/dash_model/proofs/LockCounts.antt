-- In every run the count of a lock word is how often it was granted or freed.
use Rattle.std.proofs.Common.{◌≡◌, ℕ, ◌+◌, ◌*◌, ◌≤◌, ◌<◌, ◌==◌, Bool, true, false, cond, nat_lt, List, [], ◌∷◌, ◌++◌, map, sum_by, refl, sym, ap, ◌∙◌, subst, arith}
use Rattle.std.proofs.lemmas.Bool.Decides.{nat_tests}
use Rattle.std.proofs.lemmas.List.Sums.{sum_by_push}
use Rattle.dash_base.specs.declared.id.ClusterId.{ClusterId}
use Rattle.dash_base.specs.declared.id.WordAddr.{WordAddr}
use Rattle.dash_msg.specs.Classes.{class_of}
use Rattle.dash_msg.specs.declared.classes.Class.TheVariants.{Request}
use Rattle.dash_msg.specs.declared.msg.Msg.{Msg}
use Rattle.dash_msg.specs.declared.msg.Msg.TheVariants.{Unlock, LockGrant, UnlockAck}
use Rattle.dash_msg.specs.declared.parcel.Sent.{Sent}
use Rattle.dash_event.specs.declared.access.Access.{Access}
use Rattle.dash_event.specs.declared.access.Seen.TheVariants as seen
use Rattle.dash_event.specs.declared.event.Event.{Event}
use Rattle.dash_event.specs.declared.event.Kind.{Kind}
use Rattle.dash_event.specs.declared.event.Kind.TheVariants as kind
use Rattle.hart_core.specs.HartState.{is_running}
use Rattle.dash_model.specs.Maps.{weigh, total, most}
use Rattle.dash_model.specs.Config.{Config, all_harts, cluster_of, is_lock, lock_at, lock_home}
use Rattle.dash_model.specs.Net.{Packet, packet, parcel, send}
use Rattle.dash_model.specs.Part.{Processor, Waiter, Lock, Part}
use Rattle.dash_model.specs.HartRows.{HartEffect}
use Rattle.dash_model.specs.Guard.{Guard}
use Rattle.dash_model.specs.Ranges.{has_hart, own_lock}
use Rattle.dash_model.specs.Row.{row}
use Rattle.dash_model.specs.Coherent.{ServesLock, lock_uses}
use Rattle.dash_model.specs.Cases.{TakesWell}
use Rattle.dash_model.specs.LockFacts.{of_hart_msg, of_hart, AllAreHarts, asking, uses_of, LocksAreCounted, LockUsesAreNumbered}
use Rattle.dash_model.specs.Machine.{Machine, Step, taken, AtHead, less, CanHappen, after, opening, Reaches}
use Rattle.dash_model.proofs.Tests.{is_same, not_same, is_below, both_left, both_right, at_most_one}
use Rattle.dash_model.proofs.Weigh.{weigh-append, cut}
use Rattle.dash_model.proofs.Totals.{total_add, total_same, total_one, total_bound}
use Rattle.dash_model.proofs.Prefix.{events_happen}
use Rattle.dash_model.proofs.InRuns.{in_runs}
use Rattle.dash_model.proofs.LockRange.{locks_fit}
use Rattle.dash_model.proofs.HartSteps.{answers_now, hart_step}
use Rattle.dash_model.proofs.LockFacts.{idle_elsewhere, one_each, cases_apply}
use Rattle.dash_model.proofs.Retired.{retired_in_budget}
use Rattle.dash_model.proofs.Asking.{ask_first, answers_retire}
use Rattle.dash_model.proofs.LockViews.{grants_to}
use Rattle.dash_model.proofs.Serving.{serves, answer_msg, sent_answers, raised_by, served}

-- how often the log serves hart h
abbrev served_in : ℕ → List Event → ℕ
served_in h log = sum_by (λ (e : Event). serves e.kind h) log

-- an answer to hart h
abbrev pub answers : ℕ → Packet → ℕ
answers h q = answer_msg h q.msg

-- what is on its way
answer_is : (h : ℕ) (m : Msg) → answer_msg h m ≤ of_hart_msg h m
answer_is h (LockGrant t) = omega arith
answer_is h (UnlockAck t old) = omega arith
answer_is h _ = omega arith

pub answers_le : (h : ℕ) (net : List Packet) → weigh (answers h) net ≤ weigh (of_hart h) net
unfolding weigh
answers_le h [] = omega arith
answers_le h (p ∷ ps) = let here = answer_is h p.msg in let rest = answers_le h ps in omega arith

sent_weight : (h t c : ℕ) (ss : List Sent) → weigh (answers h) (map (packet t c) ss) ≡ sent_answers h ss
unfolding weigh
sent_weight h t c [] = refl
sent_weight h t c (s ∷ ss) = let rest = sent_weight h t c ss in omega arith

pub send_weight : (h t c : ℕ) (net : List Packet) (ss : List Sent) → weigh (answers h) (send net t c ss) ≡ weigh (answers h) net + sent_answers h ss
unfolding send
send_weight h t c net ss = let all = weigh-append (answers h) net (map (packet t c) ss) in let sent = sent_weight h t c ss in omega arith

now_is : (h : ℕ) (f : ClusterId) (m : Msg) → answer_msg h m ≡ answers_now (kind.Take f m) h
now_is h f (LockGrant t) = refl
now_is h f (UnlockAck t old) = refl
now_is h f _ = refl

pub less_weight : (h c u : ℕ) (e : Kind) (net : List Packet) → AtHead (taken c u e) net → weigh (answers h) (less (taken c u e) net) + answers_now e h ≡ weigh (answers h) net
less_weight h c u (kind.Take f m) net first = ap (λ y. weigh (answers h) (less (taken c u (kind.Take f m)) net) + y) (sym (now_is h f m)) ∙ cut f.0 c (class_of m) (parcel f.0 c m u) net first (answers h)
less_weight h c u (kind.Free f a) net first = cut f.0 c Request (parcel f.0 c (Unlock a.hart a.number a.word) u) net first (answers h)
less_weight h c u _ net first = omega arith

-- the hart retires where it is answered
retires_by : (w : Config) (log : List Event) (m : Machine) (c : ℕ) (e : Kind) (d : HartEffect) (h : ℕ) (q : Part) (b : Bool) → (cluster_of w h == c) ≡ b → q.harts ≡ (row w c e d (m.parts c)).part.harts → Reaches w log m → Guard w c e d (m.parts c) → TakesWell w c e (m.parts c)
    → ((m.parts (cluster_of w h)).harts h).core.retired + answers_now e h ≤ ((cond b q (m.parts (cluster_of w h))).harts h).core.retired
retires_by w log m c e d h q true is harts r can well =
    let step = answers_retire w e h ((m.parts c).harts h) ((row w c e d (m.parts c)).part.harts h) (hart_step w c e d (m.parts c) h can well) (ask_first w log m r c h) in
    let now : (q.harts h).core.retired ≡ ((row w c e d (m.parts c)).part.harts h).core.retired = ap (λ (f : ℕ → Processor). (f h).core.retired) harts in
    let was : ((m.parts (cluster_of w h)).harts h).core.retired ≡ ((m.parts c).harts h).core.retired = ap (λ y. ((m.parts y).harts h).core.retired) (is_same (cluster_of w h) c is) in
    omega arith
retires_by w log m c e d h q false is harts r can well = let z = (idle_elsewhere w c e d (m.parts c) h can well (not_same (cluster_of w h) c is)).1 in omega arith

-- whom an event serves is a hart of the machine
first_is_hart : (w : Config) (q : List Waiter) (x : Waiter) (xs : List Waiter) → q ≡ x ∷ xs → AllAreHarts w q → x.hart < all_harts w
first_is_hart w q x xs is h = (subst (AllAreHarts w) is h).0

uses_some : (w : Config) (c : ℕ) (e : Kind) (d : HartEffect) (p : Part) (word : WordAddr) → Guard w c e d p → ((i : ℕ) → AllAreHarts w (p.locks i).queue) → lock_uses word e ≤ total (λ h. serves e h) (all_harts w)
unfolding Guard
uses_some w c (kind.Grant a) d p word can harts =
    let mine = grants_to can.waiter.hart can.waiter.number can.waiter.value 0 a.word a can.access.made in
    let low = first_is_hart w (p.locks (lock_at w a.word.0)).queue can.waiter can.others can.queue (harts (lock_at w a.word.0)) in
    let all = total_one a.hart.0 (all_harts w) (subst (λ y. y < all_harts w) (sym mine) low) in
    let most = at_most_one (a.word.0 == word.0) in
    omega arith
uses_some w c (kind.Free f a) d p word can harts =
    let all = total_one a.hart.0 (all_harts w) (is_below a.hart.0 (all_harts w) (both_left (has_hart w a.hart) (own_lock w c a.word) can.serves)) in
    let most = at_most_one (a.word.0 == word.0) in
    omega arith
uses_some w c _ d p word can harts = omega arith

-- at another home the word isn't served
off_home : (w : Config) (c : ℕ) (a word : WordAddr) (b : Bool) → (a.0 == word.0) ≡ b → own_lock w c a ≡ true → (lock_home w (lock_at w word.0) == c) ≡ false → cond {A = ℕ} b 1 0 ≡ 0
off_home w c a word true is own off =
    let there = both_right (is_lock w a.0) (lock_home w (lock_at w a.0) == c) own in
    let here : (lock_home w (lock_at w word.0) == c) ≡ true = subst (λ y. (lock_home w (lock_at w y) == c) ≡ true) (is_same a.0 word.0 is) there in
    absurd (cc)
off_home w c a word false is own off = refl

uses_at_home : (w : Config) (c : ℕ) (e : Kind) (d : HartEffect) (p : Part) (word : WordAddr) → Guard w c e d p → (lock_home w (lock_at w word.0) == c) ≡ false → lock_uses word e ≡ 0
unfolding Guard
uses_at_home w c (kind.Grant a) d p word can off = off_home w c a.word word (a.word.0 == word.0) refl can.mine off
uses_at_home w c (kind.Free f a) d p word can off = off_home w c a.word word (a.word.0 == word.0) refl (both_right (has_hart w a.hart) (own_lock w c a.word) can.serves) off
uses_at_home w c _ d p word can off = refl

-- below the greatest value it is one more
raised_one : (b : Bool) (n : ℕ) → n < most → raised_by (cond b 1 0) n ≡ n + cond b 1 0
raised_one true n low = grind (arith, nat_tests)
raised_one false n low = omega arith

raised_is : (e : Kind) (word : WordAddr) (n : ℕ) → n < most → raised_by (lock_uses word e) n ≡ n + lock_uses word e
raised_is (kind.Grant a) word n low = raised_one (a.word.0 == word.0) n low
raised_is (kind.Free f a) word n low = raised_one (a.word.0 == word.0) n low
raised_is _ word n low = omega arith

-- how often harts were served, and how often each word was used
record Counts (w : Config) (log : List Event) (m : Machine) : Type 0 where
  pub harts : (h : ℕ) → served_in h log ≤ ((m.parts (cluster_of w h)).harts h).core.retired + weigh (answers h) m.net
  pub words : (word : WordAddr) → is_lock w word.0 ≡ true → uses_of word log ≤ total (λ h. served_in h log) (all_harts w)
  pub counts : (word : WordAddr) → is_lock w word.0 ≡ true → ((m.parts (lock_home w (lock_at w word.0))).locks (lock_at w word.0)).count ≡ uses_of word log

-- a hart that asked has an instruction left, so no hart is served more often than its budget
served_by : (w : Config) (log : List Event) (m : Machine) → Reaches w log m → Counts w log m → (h : ℕ) (b : Bool) → ((m.parts (cluster_of w h)).harts h).asked ≡ b → served_in h log ≤ w.top.budget
served_by w log m r k h true e =
    let harts = k.harts h in
    let core = ((m.parts (cluster_of w h)).harts h).core in
    let left : core.retired < w.top.budget = is_below core.retired w.top.budget (both_right (is_running core.end) (nat_lt core.retired w.top.budget) (ask_first w log m r (cluster_of w h) h e).needs.goes) in
    let whole = one_each w log m r h in
    let few = at_most_one ((m.parts (cluster_of w h)).harts h).asked in
    let less = answers_le h m.net in
    omega arith
served_by w log m r k h false e =
    let harts = k.harts h in
    let retired = retired_in_budget w log m r (cluster_of w h) h in
    let whole = one_each w log m r h in
    let none : asking w m h ≡ 0 = ap (λ b. cond b 1 0) e in
    let less = answers_le h m.net in
    omega arith

used_most : (w : Config) (log : List Event) (m : Machine) → Reaches w log m → Counts w log m → (word : WordAddr) → is_lock w word.0 ≡ true → uses_of word log ≤ all_harts w * w.top.budget
used_most w log m r k word i =
    let some = k.words word i in
    let all = total_bound (λ h. served_in h log) w.top.budget (all_harts w) (λ h l. served_by w log m r k h ((m.parts (cluster_of w h)).harts h).asked refl) in
    omega arith

below_most : (w : Config) (n : ℕ) → n ≤ all_harts w * w.top.budget → n < most
below_most w n l = let work = w.top.work_in_range in omega arith

count_by : (w : Config) (m : Machine) (c : ℕ) (e : Kind) (d : HartEffect) (q : Part) (word : WordAddr) (n : ℕ) (b : Bool) → (lock_home w (lock_at w word.0) == c) ≡ b → q.locks ≡ (row w c e d (m.parts c)).part.locks → Guard w c e d (m.parts c) → is_lock w word.0 ≡ true → n < most
    → ((m.parts (lock_home w (lock_at w word.0))).locks (lock_at w word.0)).count ≡ n → ((cond b q (m.parts (lock_home w (lock_at w word.0)))).locks (lock_at w word.0)).count ≡ n + lock_uses word e
count_by w m c e d q word n true is locks can i low was =
    let here : ((m.parts c).locks (lock_at w word.0)).count ≡ n = ap (λ y. ((m.parts y).locks (lock_at w word.0)).count) (sym (is_same (lock_home w (lock_at w word.0)) c is)) ∙ was in
    ap (λ (f : ℕ → Lock). (f (lock_at w word.0)).count) locks ∙ (served w c e d (m.parts c) 0 word can).count i ∙ ap (raised_by (lock_uses word e)) here ∙ raised_is e word n low
count_by w m c e d q word n false is locks can i low was = let none = uses_at_home w c e d (m.parts c) word can is in omega arith

counts_step : (w : Config) (log : List Event) (m : Machine) (g : Step) → Reaches w log m → CanHappen w m g → Counts w log m → Counts w (log ++ g.event ∷ []) (after w m g)
counts_step w log m g r can k =
    let c = g.event.cluster.0 in
    let e = g.event.kind in
    let d = row w c e g.done (m.parts c) in
    let q : Part = record d.part { last = g.event.stamp } in
    let rest = less (taken c g.stamp e) m.net in
    let well = cases_apply w log m g r can in
    record {
      harts = λ h. (
          let more = sum_by_push (λ (x : Event). serves x.kind h) log g.event in
          let before = k.harts h in
          let sent = send_weight h g.event.stamp c rest d.sent in
          let left = less_weight h c g.stamp e m.net can.head in
          let retired = retires_by w log m c e g.done h q (cluster_of w h == c) refl refl r can.steps.guard well in
          let new = (served w c e g.done (m.parts c) h (record { 0 = 0 }) can.steps.guard).sent in
          omega arith);
      words = λ word i. (
          let more = sum_by_push (λ (x : Event). lock_uses word x.kind) log g.event in
          let split = total_same (λ h. served_in h (log ++ g.event ∷ [])) (λ h. served_in h log + serves e h) (all_harts w) (λ h l. sum_by_push (λ (x : Event). serves x.kind h) log g.event) in
          let add = total_add (λ h. served_in h log) (λ h. serves e h) (all_harts w) in
          let some = uses_some w c e g.done (m.parts c) word can.steps.guard ((locks_fit w log m r).queues c) in
          let before = k.words word i in
          omega arith);
      counts = λ word i. count_by w m c e g.done q word (uses_of word log) (lock_home w (lock_at w word.0) == c) refl refl can.steps.guard i (below_most w (uses_of word log) (used_most w log m r k word i)) (k.counts word i) ∙ sym (sum_by_push (λ (x : Event). lock_uses word x.kind) log g.event);
    }

opening_counts : (w : Config) → Counts w [] (opening w)
unfolding weigh
opening_counts w = record {
  harts = λ h. omega arith;
  words = λ word i. omega arith;
  counts = λ word i. refl;
}

all_counts : (w : Config) (log : List Event) (m : Machine) → Reaches w log m → Counts w log m
all_counts w log m r = in_runs w (λ es n. Counts w es n) (opening_counts w) (λ es n g reached can k. counts_step w es n g reached can k) log m r

pub locks_are_counted : LocksAreCounted
locks_are_counted w log m word i r = record { count = (all_counts w log m r).counts word i; bound = used_most w log m r (all_counts w log m r) word i }

-- what an access of a lock word is shown
shown_by : (w : Config) (c : ℕ) (e : Kind) (d : HartEffect) (p : Part) (a : Access) → Guard w c e d p → ServesLock e a → (own_lock w c a.word ≡ true) × (a.seen ≡ seen.Lock (p.locks (lock_at w a.word.0)).count)
unfolding Guard
shown_by w c (kind.Grant b) d p a can is = subst (λ y. (own_lock w c y.word ≡ true) × (y.seen ≡ seen.Lock (p.locks (lock_at w y.word.0)).count)) is (can.mine, can.access.seen_is)
shown_by w c (kind.Free f b) d p a can is = subst (λ y. (own_lock w c y.word ≡ true) × (y.seen ≡ seen.Lock (p.locks (lock_at w y.word.0)).count)) is (both_right (has_hart w b.hart) (own_lock w c b.word) can.serves, can.access.seen_is)
shown_by w c _ d p a can is = absurd is

pub lock_uses_numbered : LockUsesAreNumbered
lock_uses_numbered w before rest e a r is =
    let s = events_happen w before rest e r in
    let c = s.step.event.cluster.0 in
    let shown = shown_by w c s.step.event.kind s.step.done (s.state.parts c) a s.can.steps.guard (subst (λ (x : Event). ServesLock x.kind a) (sym s.is) is) in
    let lock = both_left (is_lock w a.word.0) (lock_home w (lock_at w a.word.0) == c) shown.0 in
    let there = is_same (lock_home w (lock_at w a.word.0)) c (both_right (is_lock w a.word.0) (lock_home w (lock_at w a.word.0) == c) shown.0) in
    shown.1 ∙ ap seen.Lock (ap (λ y. ((s.state.parts y).locks (lock_at w a.word.0)).count) (sym there) ∙ (locks_are_counted w before s.state a.word lock s.reached).count)
