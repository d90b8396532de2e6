-- A home frees a lock word only for an Unlock that its hart sent, and since then the hart has done nothing.
use Rattle.std.proofs.Common.{Bool, List, Some, [], ap, arith, false, length, map, refl, subst, sym, true, ℕ, ◌++◌, ◌<◌, ◌==◌, ◌∙◌, ◌∷◌, ◌≡◌, ◌≢◌}
use Rattle.dash_base.specs.declared.id.ClusterId.{ClusterId}
use Rattle.dash_base.specs.declared.id.HartId.{HartId}
use Rattle.dash_base.specs.declared.id.WordAddr.{WordAddr}
use Rattle.dash_base.specs.declared.need.Need.{Need}
use Rattle.dash_base.specs.declared.need.Need.TheVariants as needed
use Rattle.dash_msg.specs.declared.classes.Class.TheVariants.{Request}
use Rattle.dash_msg.specs.declared.msg.Msg.{Msg}
use Rattle.dash_msg.specs.declared.msg.Msg.TheVariants.{Unlock}
use Rattle.dash_msg.specs.declared.parcel.Sent.{Sent}
use Rattle.dash_event.specs.Effects.{hart_of}
use Rattle.dash_event.specs.Records.{records_in, unseen}
use Rattle.dash_event.specs.declared.access.Access.{Access}
use Rattle.dash_event.specs.declared.event.Event.{Event}
use Rattle.dash_event.specs.declared.event.Kind.{Kind}
use Rattle.dash_event.specs.declared.event.Kind.TheVariants as kind
use Rattle.dash_event.specs.declared.step_record.StepRecord.{StepRecord}
use Rattle.dash_event.specs.declared.step_record.StepRecord.TheVariants as step
use Rattle.hart_core.specs.HartState.{HartState}
use Rattle.hart_core.specs.Meaning.{Does}
use Rattle.dash_model.specs.Admissible.{IsSentBefore}
use Rattle.dash_model.specs.Config.{Config}
use Rattle.dash_model.specs.Guard.{GrantFits}
use Rattle.dash_model.specs.HartGuards.{LockSends, number_of}
use Rattle.dash_model.specs.HartRows.{PartEffect}
use Rattle.dash_model.specs.LockFacts.{of_hart, of_hart_msg}
use Rattle.dash_model.specs.Log.{IsEventAt, IsRecordEvent}
use Rattle.dash_model.specs.Machine.{AtHead, CanHappen, IsRun, Machine, Reaches, Step, after, event_of, less, taken}
use Rattle.dash_model.specs.Maps.{weigh}
use Rattle.dash_model.specs.Net.{Packet, parcel}
use Rattle.dash_model.specs.OnLine.{is_of, one}
use Rattle.dash_model.specs.Part.{Part}
use Rattle.dash_model.specs.Row.{row}
use Rattle.dash_model.proofs.Along.{AllAre}
use Rattle.dash_model.proofs.Each.{Each, EachSent, each_member, less_each, send_each}
use Rattle.dash_model.proofs.Happened.{Happened, happened}
use Rattle.dash_model.proofs.InRuns.{in_runs}
use Rattle.dash_model.proofs.LockCases.{on_its_way}
use Rattle.dash_model.proofs.LockFacts.{cases_apply}
use Rattle.dash_model.proofs.LockInstructions.{AskOf, IsNextOf, core_at, each_asks, not_next}
use Rattle.dash_model.proofs.LockViews.{Drops, Freed, Frees, Granted, Grants, LockView, Plain, Sends, Waits, lock_view}
use Rattle.dash_model.proofs.LogPlaces.{AtEnd, EventPlaced, InFront, event_at_last, event_front, event_of_front, event_placed, length_more, none_after}
use Rattle.dash_model.proofs.ServedInstructions.{is_freed, is_granted}
use Rattle.dash_model.proofs.Serving.{serves}
use Rattle.dash_model.proofs.Tests.{is_same, not_same, one_same}
use Rattle.dash_model.proofs.HartTurns.{DoesOne, Turn, only_record, turn, Works, Rests, Sends as SendsOne, Grants as GrantsOne, Frees as FreesOne, Gets}

-- the log has no record of hart h in this event
abbrev pub NoRecord : Kind → ℕ → Type 0
NoRecord e h = (r : StepRecord) → records_in e ≡ r ∷ [] → (hart_of r).0 ≡ h → ⊥

-- the log sends this Unlock, and its hart has done nothing since
pub record IsSentIn (log : List Event) (t : HartId) (n : ℕ) (word : WordAddr) : Type 0 where
  pub at : ℕ
  pub is_at : IsEventAt log at (kind.LockSend t (Unlock t n word))
  pub before : at < length log
  pub quiet : (j : ℕ) (r : StepRecord) → IsRecordEvent log j r → hart_of r ≡ t → at < j → ⊥

-- what holds of an Unlock of hart h
abbrev pub SentOf : List Event → ℕ → Msg → Type 0
SentOf log h (Unlock t n word) = t.0 ≡ h → IsSentIn log t n word
SentOf log h m = Unit {0}

-- a message is no Unlock of hart h
abbrev OtherThan : ℕ → Msg → Type 0
OtherThan h (Unlock t n word) = t.0 ≡ h → ⊥
OtherThan h m = Unit {0}

module _ (log : List Event) (e : Event) where
  still_quiet : (t : HartId) (at : ℕ) → at < length log → ((j : ℕ) (r : StepRecord) → IsRecordEvent log j r → hart_of r ≡ t → at < j → ⊥) → NoRecord e.kind t.0
      → (j : ℕ) (r : StepRecord) (k : Kind) → records_in k ≡ r ∷ [] → hart_of r ≡ t → at < j → EventPlaced log e j k → ⊥
  still_quiet t at low quiet none j r k is mine l (InFront b there) = quiet j r (record { kind = k; at = there; is = is }) mine l
  still_quiet t at low quiet none j r k is mine l (AtEnd last same) = none r (ap records_in same ∙ is) (ap (λ (z : HartId). z.0) mine)

  still_sent : (t : HartId) (n : ℕ) (word : WordAddr) → NoRecord e.kind t.0 → IsSentIn log t n word → IsSentIn (log ++ e ∷ []) t n word
  still_sent t n word none s = record {
    at = s.at;
    is_at = event_front log (e ∷ []) s.at (kind.LockSend t (Unlock t n word)) s.before s.is_at;
    before = (let more = length_more log e in let low = s.before in omega arith);
    quiet = λ j r x mine l. still_quiet t s.at s.before s.quiet none j r x.kind x.is mine l (event_placed log e j x.kind x.at);
  }

  -- the event sends it
  sent_now : (t : HartId) (n : ℕ) (word : WordAddr) → e.kind ≡ kind.LockSend t (Unlock t n word) → IsSentIn (log ++ e ∷ []) t n word
  sent_now t n word is = record {
    at = length log;
    is_at = event_at_last log e ∙ ap Some is;
    before = (let more = length_more log e in omega arith);
    quiet = λ j r x mine l. none_after log e j x.kind l (event_placed log e j x.kind x.at);
  }

  carried : (h : ℕ) (m : Msg) → NoRecord e.kind h → SentOf log h m → SentOf (log ++ e ∷ []) h m
  carried h (Unlock t n word) none k = λ same. still_sent t n word (λ r is mine. none r is (mine ∙ same)) (k same)
  carried h _ none k = tt

  other_sent : (h : ℕ) (m : Msg) → OtherThan h m → SentOf (log ++ e ∷ []) h m
  other_sent h (Unlock t n word) k = λ same. absurd (k same)
  other_sent h _ k = tt

  all_carried : (h : ℕ) (net : List Packet) → NoRecord e.kind h → Each (λ c m. SentOf log h m) net → Each (λ c m. SentOf (log ++ e ∷ []) h m) net
  all_carried h [] none k = tt
  all_carried h (q ∷ qs) none k = (carried h q.msg none k.0, all_carried h qs none k.1)

  all_other : (h : ℕ) (net : List Packet) → Each (λ c m. OtherThan h m) net → Each (λ c m. SentOf (log ++ e ∷ []) h m) net
  all_other h [] k = tt
  all_other h (q ∷ qs) k = (other_sent h q.msg k.0, all_other h qs k.1)

  -- what is sent
  line_sent : (h k : ℕ) (m : Msg) → is_of k m ≡ true → SentOf (log ++ e ∷ []) h m
  line_sent h k (Unlock t n word) is = absurd (cc)
  line_sent h k _ is = tt

  lines_sent : (h k : ℕ) (ss : List Sent) → AllAre k true ss → EachSent (λ c m. SentOf (log ++ e ∷ []) h m) ss
  lines_sent h k [] a = tt
  lines_sent h k (s ∷ ss) a = (line_sent h k s.msg a.0, lines_sent h k ss a.1)

  msg_sent : (h : ℕ) (g : HartId) (m : Msg) (need : Need) (p : Part) → e.kind ≡ kind.LockSend g m → LockSends g.0 m need p → SentOf (log ++ e ∷ []) h m
  msg_sent h g m (needed.Ask word value) p is sends = subst (SentOf (log ++ e ∷ []) h) (sym sends) tt
  msg_sent h g m (needed.Unlock word) p is sends = subst (SentOf (log ++ e ∷ []) h) (sym sends.0) (λ same. sent_now g (number_of g.0 p) word (is ∙ ap (kind.LockSend g) sends.0))
  msg_sent h g m _ p is sends = absurd sends

  view_sent : (w : Config) (c h : ℕ) (p : Part) (k : Kind) (r : PartEffect) → e.kind ≡ k → LockView w c p k r → EachSent (λ c m. SentOf (log ++ e ∷ []) h m) r.sent
  view_sent w c h p _ _ is (Plain k r a) = lines_sent h a.line r.sent a.sent
  view_sent w c h p _ _ is (Sends g m need z mine needs sends l) = (msg_sent h g m need p is sends, tt)
  view_sent w c h p _ _ is (Grants a x xs own there mine) = (tt, tt)
  view_sent w c h p _ _ is (Frees f a serves) = (tt, tt)
  view_sent w c h p _ _ is (Waits f t n word v range) = tt
  view_sent w c h p _ _ is (Granted f t z l) = tt
  view_sent w c h p _ _ is (Freed f t old z l) = tt
  view_sent w c h p _ _ is (Drops f m none) = tt

-- where a hart has no lock message on its way, and where its next instruction is another one
none_other : (h : ℕ) (m : Msg) → of_hart_msg h m ≡ 0 → OtherThan h m
none_other h (Unlock t n word) none = λ same. (let some : of_hart_msg h (Unlock t n word) ≡ 1 = ap (λ y. one t.0 y) (sym same) ∙ one_same t.0 in omega arith)
none_other h _ none = tt

none_others : (h : ℕ) (net : List Packet) → weigh (of_hart h) net ≡ 0 → Each (λ c m. OtherThan h m) net
unfolding weigh
none_others h [] e = tt
none_others h (q ∷ qs) e = (none_other h q.msg (omega arith), none_others h qs (omega arith))

busy_other : (w : Config) (h : ℕ) (s : HartState) (m : Msg) → ((n : ℕ) (word : WordAddr) → IsNextOf w s n (needed.Unlock word) → ⊥) → AskOf w h s m → OtherThan h m
busy_other w h s (Unlock t n word) busy k = λ same. busy n word (k same)
busy_other w h s _ busy k = tt

busy_others : (w : Config) (h : ℕ) (s : HartState) (net : List Packet) → ((n : ℕ) (word : WordAddr) → IsNextOf w s n (needed.Unlock word) → ⊥) → Each (λ c m. AskOf w h s m) net → Each (λ c m. OtherThan h m) net
busy_others w h s [] busy k = tt
busy_others w h s (q ∷ qs) busy k = (busy_other w h s q.msg busy k.0, busy_others w h s qs busy k.1)

-- the event has no record of the hart, or nothing that stays on its way is an Unlock of it
data Silent (e : Kind) (h : ℕ) (rest : List Packet) : Type 0 where
  Unrecorded : NoRecord e h → Silent e h rest
  Unsent : Each (λ c m. OtherThan h m) rest → Silent e h rest

module _ (w : Config) (log : List Event) (m : Machine) (g : Step) (r : Reaches w log m) (can : CanHappen w m g) (h : ℕ) where
  -- the record of an event is of hart t
  record_of : (e : Kind) (t : HartId) → ((x : StepRecord) → records_in e ≡ x ∷ [] → hart_of x ≡ t) → h ≢ t.0 → NoRecord e h
  record_of e t of differs x is mine = differs (sym mine ∙ ap (λ (z : HartId). z.0) (of x is))

  does_silent : (e : Kind) (q : Part) (rest : List Packet) (b : Bool) → (o : DoesOne w g.event.cluster.0 g.done (m.parts g.event.cluster.0) q e) → (h == o.hart.0) ≡ b → Each (λ c x. AskOf w h (core_at w m h) x) rest → Silent e h rest
  does_silent e q rest true o is k =
      let c = g.event.cluster.0 in
      let same = is_same h o.hart.0 is in
      let there : core_at w m h ≡ ((m.parts c).harts o.hart.0).core = ap (core_at w m) same ∙ ap (λ y. ((m.parts y).harts o.hart.0).core) o.mine in
      let does = subst (λ s. Does w.image w.top s g.done.need o.answer g.done.next) (sym there) o.does in
      Unsent (busy_others w h (core_at w m h) rest (λ n word next. not_next w h (core_at w m h) g.done.next g.done.need o.answer does o.other n (needed.Unlock word) tt next) k)
  does_silent e q rest false o is k = Unrecorded (record_of e o.hart o.recorded (not_same h o.hart.0 is))

  grant_silent : (a : Access) (rest : List Packet) (b : Bool) → (h == a.hart.0) ≡ b → GrantFits w g.event.cluster.0 a (m.parts g.event.cluster.0) → (weigh (of_hart h) m.net ≡ 0 → Each (λ c x. OtherThan h x) rest) → Silent (kind.Grant a) h rest
  grant_silent a rest true is fits none = Unsent (none (subst (λ y. weigh (of_hart y) m.net ≡ 0) (sym (is_same h a.hart.0 is)) (is_granted w log m g.event.cluster.0 a r fits).alone))
  grant_silent a rest false is fits none = Unrecorded (record_of (kind.Grant a) a.hart (only_record (kind.Grant a) (step.Access (unseen a)) a.hart refl refl) (not_same h a.hart.0 is))

  free_silent : (f : ClusterId) (a : Access) (b : Bool) → (h == a.hart.0) ≡ b → AtHead (taken g.event.cluster.0 g.stamp (kind.Free f a)) m.net → Silent (kind.Free f a) h (less (taken g.event.cluster.0 g.stamp (kind.Free f a)) m.net)
  free_silent f a true is first =
      let c = g.event.cluster.0 in
      let rest = less (taken c g.stamp (kind.Free f a)) m.net in
      Unsent (none_others h rest (subst (λ y. weigh (of_hart y) rest ≡ 0) (sym (is_same h a.hart.0 is)) (is_freed w log m c g.stamp f a r first).alone))
  free_silent f a false is first = Unrecorded (record_of (kind.Free f a) a.hart (only_record (kind.Free f a) (step.Access (unseen a)) a.hart refl refl) (not_same h a.hart.0 is))

  unrecorded : (e : Kind) → records_in e ≡ [] → NoRecord e h
  unrecorded e none x is mine = absurd (cc)

  silent : (e : Kind) (q : Part) → AtHead (taken g.event.cluster.0 g.stamp e) m.net → Turn w g.event.cluster.0 g.done (m.parts g.event.cluster.0) q e → Silent e h (less (taken g.event.cluster.0 g.stamp e) m.net)
  silent _ q first (Works e o) = does_silent e q (less (taken g.event.cluster.0 g.stamp e) m.net) (h == o.hart.0) o refl (less_each (λ c x. AskOf w h (core_at w m h) x) (taken g.event.cluster.0 g.stamp e) m.net (each_asks w log m r h).net)
  silent _ q first (Rests e o) = Unrecorded (unrecorded e o.unrecorded)
  silent _ q first (SendsOne t x fits cores) = Unrecorded (unrecorded (kind.LockSend t x) refl)
  silent _ q first (GrantsOne a fits cores) = grant_silent a m.net (h == a.hart.0) refl fits (none_others h m.net)
  silent _ q first (FreesOne f a fits cores) = free_silent f a (h == a.hart.0) refl first
  silent _ q first (Gets f x o) = Unrecorded (unrecorded (kind.Take f x) refl)

  rest_by : (rest : List Packet) → Silent g.event.kind h rest → Each (λ c x. SentOf log h x) rest → Each (λ c x. SentOf (log ++ g.event ∷ []) h x) rest
  rest_by rest (Unrecorded none) k = all_carried log g.event h rest none k
  rest_by rest (Unsent none) k = all_other log g.event h rest none

  sent_step : Each (λ c x. SentOf log h x) m.net → Each (λ c x. SentOf (log ++ g.event ∷ []) h x) (after w m g).net
  sent_step k =
      let c = g.event.cluster.0 in
      let e = g.event.kind in
      let p = m.parts c in
      let d = row w c e g.done p in
      let rest = less (taken c g.stamp e) m.net in
      let quiet = silent e d.part can.head (turn w c e g.done p can.cluster can.steps.guard (cases_apply w log m g r can)) in
      send_each (λ j x. SentOf (log ++ g.event ∷ []) h x) g.event.stamp c rest d.sent (rest_by rest quiet (less_each (λ j x. SentOf log h x) (taken c g.stamp e) m.net k)) (view_sent log g.event w c h p e d refl (lock_view w c e g.done p can.steps.guard))

sent_in : (w : Config) (log : List Event) (m : Machine) → Reaches w log m → (h : ℕ) → Each (λ c x. SentOf log h x) m.net
sent_in w log m r = in_runs w (λ es n. (h : ℕ) → Each (λ c x. SentOf es h x) n.net) (λ h. tt) (λ es n g reached can k h. sent_step w es n g reached can h (k h)) log m r

free_at : (w : Config) (log : List Event) (i : ℕ) (f : ClusterId) (a : Access) → Happened w log i (kind.Free f a) → IsSentBefore log i a
free_at w log i f a x =
    let c = x.step.event.cluster.0 in
    let msg = Unlock a.hart a.number a.word in
    let first = subst (λ y. AtHead (taken c x.step.stamp y) x.state.net) x.is x.can.head in
    let sent : IsSentIn x.before a.hart a.number a.word = each_member (λ j y. SentOf x.before a.hart.0 y) (parcel f.0 c msg x.step.stamp) x.state.net (on_its_way f.0 c Request (parcel f.0 c msg x.step.stamp) x.state.net first) (sent_in w x.before x.state x.reached a.hart.0) refl in
    let follow = x.step.event ∷ map event_of x.follow in
    let low = sent.before in
    let place = x.place in
    record {
      at = sent.at;
      is_at = subst (λ es. IsEventAt es sent.at (kind.LockSend a.hart msg)) (sym x.whole) (event_front x.before follow sent.at (kind.LockSend a.hart msg) sent.before sent.is_at);
      before = omega arith;
      quiet = λ j y z mine l until. sent.quiet j y (record { kind = z.kind; at = event_of_front x.before follow j z.kind (omega arith) (subst (λ es. IsEventAt es j z.kind) x.whole z.at); is = z.is }) mine l;
    }

-- each Free
pub frees_are_sent : (w : Config) (log : List Event) → IsRun w log → (i : ℕ) (from : ClusterId) (a : Access) → IsEventAt log i (kind.Free from a) → IsSentBefore log i a
frees_are_sent w log run i from a at = free_at w log i from a (happened w log i (kind.Free from a) run at)
