-- One step of a run, replayed: a hart whose lock instruction its home has served is ahead of the machine's by that instruction, and every other hart is the machine's.
use Rattle.std.proofs.Common.{Bool, List, [], ap, arith, cond, false, refl, subst, sym, true, unwrap_or, ℕ, ◌+◌, ◌<◌, ◌==◌, ◌∙◌, ◌∷◌, ◌≡◌, ◌≢◌, ◌≤◌}
use Rattle.dash_base.specs.Places.{hart_count}
use Rattle.dash_base.specs.declared.id.ClusterId.{ClusterId}
use Rattle.dash_base.specs.declared.id.HartId.{HartId}
use Rattle.dash_base.specs.declared.need.Need.{Need}
use Rattle.dash_base.specs.declared.need.Need.TheVariants as needed
use Rattle.dash_base.specs.declared.topology.Topology.{Topology}
use Rattle.dash_msg.specs.Classes.{class_of}
use Rattle.dash_msg.specs.declared.msg.Msg.{Msg}
use Rattle.dash_msg.specs.declared.msg.Msg.TheVariants.{LockAsk, LockGrant, Unlock, UnlockAck}
use Rattle.dash_msg.specs.declared.parcel.Sent.{Sent}
use Rattle.dash_event.specs.Effects.{reply}
use Rattle.dash_event.specs.Offered.{offered}
use Rattle.dash_event.specs.Records.{unseen}
use Rattle.dash_event.specs.declared.access.Access.{Access}
use Rattle.dash_event.specs.declared.event.Event.{Event}
use Rattle.dash_event.specs.declared.event.Kind.{Kind}
use Rattle.dash_event.specs.declared.event.Kind.TheVariants as kind
use Rattle.hart_core.proofs.LawsOffered.{needs_of, one_after, one_need}
use Rattle.hart_core.specs.HartState.{HartState}
use Rattle.hart_core.specs.Meaning.{Does, IsFinished, Needs, after_need}
use Rattle.dash_model.specs.Config.{Config, all_harts, cluster_of, hart_id, lock_at}
use Rattle.dash_model.specs.Guard.{FreeFits, GrantFits}
use Rattle.dash_model.specs.HartGuards.{LockSendFits, LockSends, number_of}
use Rattle.dash_model.specs.HartRows.{HartEffect}
use Rattle.dash_model.specs.LockFacts.{AllAreHarts, IsLock, asking}
use Rattle.dash_model.specs.LockRows.{grant_row}
use Rattle.dash_model.specs.Machine.{AtHead, CanHappen, Machine, Reaches, Step, after, less, part_after, taken}
use Rattle.dash_model.specs.Maps.{weigh}
use Rattle.dash_model.specs.Net.{Packet, parcel, to}
use Rattle.dash_model.specs.OnLine.{one}
use Rattle.dash_model.specs.Part.{Part, Waiter}
use Rattle.dash_model.specs.Ranges.{has_hart, own_lock}
use Rattle.dash_model.specs.Replay.{Harts, IsLockMsg, Moves, NamesHarts, Replays}
use Rattle.dash_model.specs.Row.{row}
use Rattle.dash_model.proofs.Asking.{ask_first}
use Rattle.dash_model.proofs.Each.{Each, EachSent, each_member, less_each, send_each}
use Rattle.dash_model.proofs.HartRuns.{hart_at}
use Rattle.dash_model.proofs.HartSteps.{answers_now}
use Rattle.dash_model.proofs.LockCases.{on_its_way}
use Rattle.dash_model.proofs.LockCounts.{answers, answers_le, less_weight, send_weight}
use Rattle.dash_model.proofs.LockFacts.{cases_apply, one_each}
use Rattle.dash_model.proofs.LockInstructions.{core_at}
use Rattle.dash_model.proofs.LockRange.{hart_below, locks_fit}
use Rattle.dash_model.proofs.ServedInstructions.{is_freed, is_granted}
use Rattle.dash_model.proofs.Serving.{answer_msg, sent_answers, served, serves}
use Rattle.dash_model.proofs.Tests.{at_most_one, both_left, both_right, differ, is_below, is_same, not_same, one_other, one_same, same}
use Rattle.dash_model.proofs.HartTurns.{Answers, Apart, DoesOne, Frees, Gets, GetsAnswer, Grants, Rests, Sends, Turn, Works, turn}

-- what an answer on its way to hart h makes of its core
abbrev pub AnswerOf : Config → ℕ → HartState → HartState → Msg → Type 0
AnswerOf w h s old (LockGrant t) = t.0 ≡ h → IsFinished w.image w.top s 0 old
AnswerOf w h s old (UnlockAck t x) = t.0 ≡ h → IsFinished w.image w.top s x old
AnswerOf w h s old m = Unit {0}

-- the replayed hart, where the machine's core is s
pub record Stands (w : Config) (h : ℕ) (s old : HartState) (net : List Packet) : Type 0 where
  pub same : weigh (answers h) net ≡ 0 → old ≡ s
  pub ahead : Each (λ c m. AnswerOf w h s old m) net

-- of each hart
abbrev pub EachStands : Config → Machine → Harts → Type 0
EachStands w m old = (h : ℕ) → Stands w h (core_at w m h) (old h) m.net

module _ (w : Config) (h : ℕ) (s old : HartState) where
  none_answers : (m : Msg) → answer_msg h m ≡ 0 → AnswerOf w h s old m
  none_answers (LockGrant t) none = λ e. (let some : answer_msg h (LockGrant t) ≡ 1 = ap (λ y. one t.0 y) (sym e) ∙ one_same t.0 in absurd (omega arith))
  none_answers (UnlockAck t x) none = λ e. (let some : answer_msg h (UnlockAck t x) ≡ 1 = ap (λ y. one t.0 y) (sym e) ∙ one_same t.0 in absurd (omega arith))
  none_answers _ none = tt

  none_each : (net : List Packet) → weigh (answers h) net ≡ 0 → Each (λ c m. AnswerOf w h s old m) net
  unfolding weigh
  none_each [] e = tt
  none_each (q ∷ qs) e = (none_answers q.msg (omega arith), none_each qs (omega arith))

  none_sent : (ss : List Sent) → sent_answers h ss ≡ 0 → EachSent (λ c m. AnswerOf w h s old m) ss
  unfolding weigh
  none_sent [] e = tt
  none_sent (x ∷ xs) e = (none_answers x.msg (omega arith), none_sent xs (omega arith))

  -- where no answer is on its way
  pub stands_here : (net : List Packet) → weigh (answers h) net ≡ 0 → old ≡ s → Stands w h s old net
  stands_here net none is = record { same = λ e. is; ahead = none_each net none }

-- a step along the answers to a hart
record AnswersMove (w : Config) (m : Machine) (g : Step) (h : ℕ) : Type 0 where
  pub even : weigh (answers h) (after w m g).net + answers_now g.event.kind h ≡ weigh (answers h) m.net + serves g.event.kind h
  pub sent : sent_answers h (row w g.event.cluster.0 g.event.kind g.done (m.parts g.event.cluster.0)).sent ≡ serves g.event.kind h

answers_move : (w : Config) (m : Machine) (g : Step) (h : ℕ) → CanHappen w m g → AnswersMove w m g h
answers_move w m g h can =
    let c = g.event.cluster.0 in
    let e = g.event.kind in
    let d = row w c e g.done (m.parts c) in
    let new = (served w c e g.done (m.parts c) h (record { 0 = 0 }) can.steps.guard).sent in
    let sent = send_weight h g.event.stamp c (less (taken c g.stamp e) m.net) d.sent in
    let left = less_weight h c g.stamp e m.net can.head in
    record { even = omega arith; sent = new }

-- a hart that the step leaves
stands_on : (w : Config) (m : Machine) (g : Step) (h : ℕ) (s old : HartState) → CanHappen w m g → serves g.event.kind h ≡ 0 → answers_now g.event.kind h ≡ 0 → Stands w h s old m.net → Stands w h s old (after w m g).net
stands_on w m g h s old can unserved none k =
    let c = g.event.cluster.0 in
    let e = g.event.kind in
    let move = answers_move w m g h can in
    record {
      same = λ z. k.same (let x = move.even in omega arith);
      ahead = send_each (λ a x. AnswerOf w h s old x) g.event.stamp c (less (taken c g.stamp e) m.net) (row w c e g.done (m.parts c)).sent (less_each (λ a x. AnswerOf w h s old x) (taken c g.stamp e) m.net k.ahead) (none_sent w h s old (row w c e g.done (m.parts c)).sent (move.sent ∙ unserved));
    }

-- where a hart's lock instruction was not sent, or is yet to be served, no answer is on its way to it
few_answers : (w : Config) (log : List Event) (m : Machine) → Reaches w log m → (h : ℕ) → (weigh (answers h) m.net ≤ asking w m h) × (asking w m h ≤ 1)
few_answers w log m r h = let one = one_each w log m r h in let le = answers_le h m.net in (omega arith, at_most_one ((m.parts (cluster_of w h)).harts h).asked)

unasked : (w : Config) (log : List Event) (m : Machine) → Reaches w log m → (h : ℕ) → (hart_at w m h).asked ≡ false → weigh (answers h) m.net ≡ 0
unasked w log m r h unsent =
    let few = few_answers w log m r h in
    let none : asking w m h ≡ 0 = ap (λ b. cond b 1 0) unsent in
    let low = few.0 in
    omega arith

-- a hart that does another instruction
busy_by : (w : Config) (log : List Event) (m : Machine) → Reaches w log m → (h : ℕ) (need : Need) (x : ℕ) (t : HartState) (b : Bool) → (hart_at w m h).asked ≡ b → Does w.image w.top (core_at w m h) need x t → (IsLock need → ⊥) → weigh (answers h) m.net ≡ 0
busy_by w log m r h need x t false is does other = unasked w log m r h is
busy_by w log m r h need x t true is does other =
    let next = ask_first w log m r (cluster_of w h) h is in
    absurd (other (subst IsLock (one_need w.image w.top (core_at w m h) next.need need next.needs (needs_of w.image w.top (core_at w m h) t need x does)) next.lock))

-- one hart of the new state is another
abbrev with_hart : Harts → ℕ → HartState → Harts
with_hart old g t k = cond (k == g) t (old k)

at_hart : (g : ℕ) (t s : HartState) → cond (g == g) t s ≡ t
at_hart g t s = ap (λ b. cond b t s) (same g)

off_hart : (g k : ℕ) (t s : HartState) → k ≢ g → cond (k == g) t s ≡ s
off_hart g k t s d = ap (λ b. cond b t s) (differ k g d)

-- the replayed harts after a step: the event makes them of those before it, and they stand where they should
pub record ReplayedStep (w : Config) (m : Machine) (g : Step) (old : Harts) (e : Kind) : Type 0 where
  pub harts : Harts
  pub replays : Replays w.image w.top old e harts
  pub stands : EachStands w (after w m g) harts

-- with this answer a hart becomes this one
abbrev answered_as : (w : Config) (s : HartState) (need : Need) → Needs w.image w.top s need → ℕ → HartState
answered_as w s need n x = after_need s n.found need x

does_as : (w : Config) (s : HartState) (need : Need) (n : Needs w.image w.top s need) (x : ℕ) → Does w.image w.top s need x (answered_as w s need n x)
does_as w s need n x = record { goes = n.goes; found = n.found; is_found = n.is_found; needs = n.needs; after = refl }

-- what a message answers, and whom
answer_is : (w : Config) (h : ℕ) (s old : HartState) (m : Msg) (t : HartId) (x : ℕ) → Answers m t x → t.0 ≡ h → AnswerOf w h s old m → IsFinished w.image w.top s x old
answer_is w h s old (LockGrant g) t x a e k = subst (λ y. IsFinished w.image w.top s y old) (sym a.1) (k (ap (λ (z : HartId). z.0) a.0 ∙ e))
answer_is w h s old (UnlockAck g y) t x a e k = subst (λ y. IsFinished w.image w.top s y old) (sym a.1) (k (ap (λ (z : HartId). z.0) a.0 ∙ e))
answer_is w h s old _ t x a e k = absurd a

answers_one : (f : ClusterId) (m : Msg) (t : HartId) (x k : ℕ) → Answers m t x → answers_now (kind.Take f m) k ≡ one t.0 k
answers_one f (LockGrant g) t x k a = ap (λ (z : HartId). one z.0 k) a.0
answers_one f (UnlockAck g y) t x k a = ap (λ (z : HartId). one z.0 k) a.0
answers_one f _ t x k a = absurd a

answer_names : (t : Topology) (m : Msg) (h : HartId) (x : ℕ) → Answers m h x → h.0 < hart_count t → NamesHarts t m
answer_names t (LockGrant g) h x a low = subst (λ (z : HartId). z.0 < hart_count t) (sym a.0) low
answer_names t (UnlockAck g y) h x a low = subst (λ (z : HartId). z.0 < hart_count t) (sym a.0) low
answer_names t _ h x a low = absurd a

-- two answers that are one make one hart
one_answer : (w : Config) (s a b : HartState) (x : ℕ) (need : Need) → IsFinished w.image w.top s x a → Does w.image w.top s need x b → a ≡ b
one_answer w s a b x need f does =
    let is = one_need w.image w.top s f.need need (needs_of w.image w.top s a f.need x f.does) (needs_of w.image w.top s b need x does) in
    one_after w.image w.top s a b need x (subst (λ n. Does w.image w.top s n x a) is f.does) does

grant_sent : (w : Config) (c : ℕ) (a : Access) (d : HartEffect) (p : Part) (x : Waiter) (xs : List Waiter) → (p.locks (lock_at w a.word.0)).queue ≡ x ∷ xs → (row w c (kind.Grant a) d p).sent ≡ to (cluster_of w x.hart) (LockGrant (hart_id x.hart)) ∷ []
unfolding row
grant_sent w c a d p x xs is = ap (λ q. (grant_row w (lock_at w a.word.0) q p).sent) is

free_sent : (w : Config) (c : ℕ) (f : ClusterId) (a : Access) (d : HartEffect) (p : Part) → (row w c (kind.Free f a) d p).sent ≡ to (cluster_of w a.hart.0) (UnlockAck a.hart (p.locks (lock_at w a.word.0)).value) ∷ []
unfolding row
free_sent w c f a d p = refl

module _ (w : Config) (log : List Event) (m : Machine) (g : Step) (r : Reaches w log m) (can : CanHappen w m g) (old : Harts) (st : EachStands w m old) where
  abbrev c : ℕ
  c = g.event.cluster.0

  abbrev p : Part
  p = m.parts g.event.cluster.0

  abbrev q : Part
  q = (row w g.event.cluster.0 g.event.kind g.done (m.parts g.event.cluster.0)).part

  -- harts of the machine after the step
  moved_by : (t : HartId) (s : HartState) → cluster_of w t.0 ≡ c → ((k : ℕ) → (q.harts k).core ≡ cond (k == t.0) s (p.harts k).core) → (k : ℕ) (b : Bool) → (cluster_of w k == c) ≡ b → ((cond b (part_after w c g p) (m.parts (cluster_of w k))).harts k).core ≡ cond (k == t.0) s (core_at w m k)
  moved_by t s mine cores k true is = cores k ∙ ap (λ y. cond (k == t.0) s ((m.parts y).harts k).core) (sym (is_same (cluster_of w k) c is))
  moved_by t s mine cores k false is = sym (off_hart t.0 k s (core_at w m k) (λ e. not_same (cluster_of w k) c is (ap (cluster_of w) e ∙ mine)))

  moved : (t : HartId) (s : HartState) → cluster_of w t.0 ≡ c → ((k : ℕ) → (q.harts k).core ≡ cond (k == t.0) s (p.harts k).core) → (k : ℕ) → core_at w (after w m g) k ≡ cond (k == t.0) s (core_at w m k)
  moved t s mine cores k = moved_by t s mine cores k (cluster_of w k == c) refl

  still_by : ((k : ℕ) → (q.harts k).core ≡ (p.harts k).core) → (k : ℕ) (b : Bool) → (cluster_of w k == c) ≡ b → ((cond b (part_after w c g p) (m.parts (cluster_of w k))).harts k).core ≡ core_at w m k
  still_by cores k true is = cores k ∙ ap (λ y. ((m.parts y).harts k).core) (sym (is_same (cluster_of w k) c is))
  still_by cores k false is = refl

  still : ((k : ℕ) → (q.harts k).core ≡ (p.harts k).core) → (k : ℕ) → core_at w (after w m g) k ≡ core_at w m k
  still cores k = still_by cores k (cluster_of w k == c) refl

  -- no hart moves, and none is answered
  all_stand : ((k : ℕ) → (q.harts k).core ≡ (p.harts k).core) → ((k : ℕ) → Apart g.event.kind k) → EachStands w (after w m g) old
  all_stand cores apart k = subst (λ s. Stands w k s (old k) (after w m g).net) (sym (still cores k)) (stands_on w m g k (core_at w m k) (old k) can (apart k).0 (apart k).1 (st k))

  -- one instruction of the hart, from where the machine's is
  moves_one : (t : HartId) (s : HartState) (need : Need) (x : ℕ) → t.0 < hart_count w.top → old t.0 ≡ core_at w m t.0 → Does w.image w.top (core_at w m t.0) need x s → Moves w.image w.top old (with_hart old t.0 s) t need x
  moves_one t s need x low same does = record {
    in_range = low;
    does = subst (λ y. Does w.image w.top y need x (with_hart old t.0 s t.0)) (sym same) (subst (λ y. Does w.image w.top (core_at w m t.0) need x y) (sym (at_hart t.0 s (old t.0))) does);
    others = λ k d. off_hart t.0 k s (old k) d;
  }

  work_stands : (t : HartId) (s : HartState) → weigh (answers t.0) m.net ≡ 0 → ((k : ℕ) → Apart g.event.kind k) → (k : ℕ) (b : Bool) → (k == t.0) ≡ b → Stands w k (cond b s (core_at w m k)) (cond b s (old k)) (after w m g).net
  work_stands t s none apart k true is =
      let e = is_same k t.0 is in
      let move = (answers_move w m g k can).even in
      let before : weigh (answers k) m.net ≡ 0 = subst (λ y. weigh (answers y) m.net ≡ 0) (sym e) none in
      let a = (apart k).0 in
      stands_here w k s s (after w m g).net (omega arith) refl
  work_stands t s none apart k false is = stands_on w m g k (core_at w m k) (old k) can (apart k).0 (apart k).1 (st k)

  works : (e : Kind) → g.event.kind ≡ e → DoesOne w c g.done p q e → ReplayedStep w m g old e
  works e is o =
      let t = o.hart in
      let there : core_at w m t.0 ≡ (p.harts t.0).core = ap (λ y. ((m.parts y).harts t.0).core) o.mine in
      let does : Does w.image w.top (core_at w m t.0) g.done.need o.answer g.done.next = subst (λ y. Does w.image w.top y g.done.need o.answer g.done.next) (sym there) o.does in
      let none = busy_by w log m r t.0 g.done.need o.answer g.done.next (hart_at w m t.0).asked refl does o.other in
      let same = (st t.0).same none in
      record {
        harts = with_hart old t.0 g.done.next;
        replays = o.replays old (with_hart old t.0 g.done.next) (same ∙ there) (moves_one t g.done.next g.done.need o.answer (hart_below w t.0 c o.mine can.cluster) same does);
        stands = λ k. subst (λ s. Stands w k s (with_hart old t.0 g.done.next k) (after w m g).net) (sym (moved t g.done.next o.mine o.cores k)) (work_stands t g.done.next none (λ j. subst (λ y. Apart y j) (sym is) (o.apart j)) k (k == t.0) refl);
      }

  -- the hart's lock message is sent
  sent_msg : (h : HartId) (x : Msg) (need : Need) (n : ℕ) → n ≡ number_of h.0 p → LockSends h.0 x need p → IsLockMsg h n x need
  sent_msg h x (needed.Ask word value) n e s = s ∙ ap (λ y. LockAsk h y word value) (sym e)
  sent_msg h x (needed.Unlock word) n e s = s.0 ∙ ap (λ y. Unlock h y word) (sym e)
  sent_msg h x _ n e s = absurd s

  sends : (h : HartId) (x : Msg) → g.event.kind ≡ kind.LockSend h x → LockSendFits w c h.0 x p → ((k : ℕ) → (q.harts k).core ≡ (p.harts k).core) → ReplayedStep w m g old (kind.LockSend h x)
  sends h x is fits cores =
      let there : core_at w m h.0 ≡ (p.harts h.0).core = ap (λ y. ((m.parts y).harts h.0).core) fits.mine in
      let unsent : (hart_at w m h.0).asked ≡ false = ap (λ y. ((m.parts y).harts h.0).asked) fits.mine ∙ fits.unsent in
      let same = (st h.0).same (unasked w log m r h.0 unsent) in
      record {
        harts = old;
        replays = record {
          in_range = hart_below w h.0 c fits.mine can.cluster;
          stays = λ k. refl;
          need = fits.need;
          needs = subst (λ y. Needs w.image w.top y fits.need) (sym (same ∙ there)) fits.needs;
          is_sent = sent_msg h x fits.need ((old h.0).retired + 1) (ap (λ (s : HartState). s.retired + 1) (same ∙ there)) fits.sends;
        };
        stands = all_stand cores (λ k. subst (λ y. Apart y k) (sym is) (refl, refl));
      }

  -- a home serves hart t, and its answer goes out
  serve_stands : (t : HartId) (s : HartState) (x : Msg) (a : ℕ) → weigh (answers t.0) m.net ≡ 0 → ((k : ℕ) → (serves g.event.kind k ≡ one t.0 k) × (answers_now g.event.kind k ≡ 0)) → (row w c g.event.kind g.done p).sent ≡ to a x ∷ [] → AnswerOf w t.0 (core_at w m t.0) s x
      → (k : ℕ) (b : Bool) → (k == t.0) ≡ b → Stands w k (core_at w m k) (cond b s (old k)) (after w m g).net
  serve_stands t s x a none serving sent answer k true is =
      let e = is_same k t.0 is in
      let move = (answers_move w m g k can).even in
      let one_now : serves g.event.kind k ≡ 1 = (serving k).0 ∙ ap (one t.0) e ∙ one_same t.0 in
      let z = (serving k).1 in
      let before : weigh (answers k) m.net ≡ 0 = subst (λ y. weigh (answers y) m.net ≡ 0) (sym e) none in
      let P = λ (j : ℕ) (y : Msg). AnswerOf w k (core_at w m k) s y in
      record {
        same = λ n. absurd (omega arith);
        ahead = send_each P g.event.stamp c (less (taken c g.stamp g.event.kind) m.net) (row w c g.event.kind g.done p).sent (less_each P (taken c g.stamp g.event.kind) m.net (none_each w k (core_at w m k) s m.net before)) (subst (λ ss. EachSent P ss) (sym sent) (subst (λ y. AnswerOf w y (core_at w m y) s x) (sym e) answer, tt));
      }
  serve_stands t s x a none serving sent answer k false is =
      stands_on w m g k (core_at w m k) (old k) can ((serving k).0 ∙ one_other t.0 k (λ e. not_same k t.0 is (sym e))) (serving k).1 (st k)

  grants : (a : Access) → g.event.kind ≡ kind.Grant a → GrantFits w c a p → ((k : ℕ) → (q.harts k).core ≡ (p.harts k).core) → ReplayedStep w m g old (kind.Grant a)
  grants a is fits cores =
      let x = fits.waiter in
      let h = a.hart.0 in
      let served = is_granted w log m c a r fits in
      let mine = served.mine in
      let next = served.next in
      let few = answers_le h m.net in
      let alone = served.alone in
      let none : weigh (answers h) m.net ≡ 0 = omega arith in
      let same = (st h).same none in
      let made = ap (λ o. unwrap_or o (unseen a)) fits.access.made in
      let zero_is : reply a.read a.written ≡ 0 = ap (λ (y : Access). reply y.read y.written) made in
      let new = answered_as w (core_at w m h) (needed.Ask a.word x.value) next.needs (reply a.read a.written) in
      let does = does_as w (core_at w m h) (needed.Ask a.word x.value) next.needs (reply a.read a.written) in
      let number : x.number ≡ (old h).retired + 1 = next.number_is ∙ ap (λ (y : HartState). y.retired + 1) (sym same) in
      let sent : (row w c g.event.kind g.done p).sent ≡ to (cluster_of w x.hart) (LockGrant (hart_id x.hart)) ∷ [] = ap (λ y. (row w c y g.done p).sent) is ∙ grant_sent w c a g.done p x fits.others fits.queue in
      let below_all : h < all_harts w = subst (λ y. y < all_harts w) (sym mine) (subst (AllAreHarts w) fits.queue ((locks_fit w log m r).queues c (lock_at w a.word.0))).0 in
      record {
        harts = with_hart old h new;
        replays = (
          record {
            need = needed.Ask a.word x.value;
            moves = moves_one a.hart new (needed.Ask a.word x.value) (reply a.read a.written) below_all same does;
            content = 0;
            succeeds = true;
            is_offered = ap (λ y. offered h y (needed.Ask a.word x.value) 0 true) (sym number) ∙ ap (λ y. offered y x.number (needed.Ask a.word x.value) 0 true) mine ∙ sym fits.access.made;
          },
          ap (λ (y : Access). y.op) made,
        );
        stands = λ k. subst (λ s. Stands w k s (with_hart old h new k) (after w m g).net) (sym (still cores k)) (serve_stands a.hart new (LockGrant (hart_id x.hart)) (cluster_of w x.hart) none (λ j. (ap (λ y. serves y j) is, ap (λ y. answers_now y j) is)) sent (λ e. record { need = needed.Ask a.word x.value; does = subst (λ y. Does w.image w.top (core_at w m h) (needed.Ask a.word x.value) y new) zero_is does }) k (k == h) refl);
      }

  frees_it : (f : ClusterId) (a : Access) → g.event.kind ≡ kind.Free f a → FreeFits w c a p → ((k : ℕ) → (q.harts k).core ≡ (p.harts k).core) → ReplayedStep w m g old (kind.Free f a)
  frees_it f a is fits cores =
      let h = a.hart.0 in
      let value = (p.locks (lock_at w a.word.0)).value in
      let need = needed.Unlock a.word in
      let first = subst (λ y. AtHead (taken c g.stamp y) m.net) is can.head in
      let served = is_freed w log m c g.stamp f a r first in
      let next = served.next in
      let few = answers_le h (less (taken c g.stamp (kind.Free f a)) m.net) in
      let alone = served.alone in
      let over = less_weight h c g.stamp (kind.Free f a) m.net first in
      let none : weigh (answers h) m.net ≡ 0 = omega arith in
      let same = (st h).same none in
      let made = ap (λ o. unwrap_or o (unseen a)) fits.access.made in
      let value_is : reply a.read a.written ≡ value = ap (λ (y : Access). reply y.read y.written) made in
      let new = answered_as w (core_at w m h) need next.needs (reply a.read a.written) in
      let does = does_as w (core_at w m h) need next.needs (reply a.read a.written) in
      let number : a.number ≡ (old h).retired + 1 = next.number_is ∙ ap (λ (y : HartState). y.retired + 1) (sym same) in
      let sent : (row w c g.event.kind g.done p).sent ≡ to (cluster_of w h) (UnlockAck a.hart value) ∷ [] = ap (λ y. (row w c y g.done p).sent) is ∙ free_sent w c f a g.done p in
      record {
        harts = with_hart old h new;
        replays = (
          record {
            need = need;
            moves = moves_one a.hart new need (reply a.read a.written) (is_below h (all_harts w) (both_left (has_hart w a.hart) (own_lock w c a.word) fits.serves)) same does;
            content = value;
            succeeds = true;
            is_offered = ap (λ y. offered h y need value true) (sym number) ∙ sym fits.access.made;
          },
          ap (λ (y : Access). y.op) made,
        );
        stands = λ k. subst (λ s. Stands w k s (with_hart old h new k) (after w m g).net) (sym (still cores k)) (serve_stands a.hart new (UnlockAck a.hart value) (cluster_of w h) none (λ j. (ap (λ y. serves y j) is, ap (λ y. answers_now y j) is)) sent (λ e. record { need = need; does = subst (λ y. Does w.image w.top (core_at w m h) need y new) value_is does }) k (k == h) refl);
      }

  -- the answer is taken, and the machine's hart is where the replayed one is
  get_stands : (f : ClusterId) (x : Msg) → g.event.kind ≡ kind.Take f x → (o : GetsAnswer w c g.done p q x) → cluster_of w o.hart.0 ≡ c → (k : ℕ) (b : Bool) → (k == o.hart.0) ≡ b → Stands w k (cond b g.done.next (core_at w m k)) (old k) (after w m g).net
  get_stands f x is o mine k true here =
      let e = is_same k o.hart.0 here in
      let first = subst (λ y. AtHead (taken c g.stamp y) m.net) is can.head in
      let there : core_at w m k ≡ (p.harts k).core = ap (λ y. ((m.parts y).harts k).core) (ap (cluster_of w) e ∙ mine) in
      let does : Does w.image w.top (core_at w m k) g.done.need o.answer g.done.next = subst (λ y. Does w.image w.top y g.done.need o.answer g.done.next) (sym (there ∙ ap (λ y. (p.harts y).core) e)) o.does in
      let answer = answer_is w k (core_at w m k) (old k) x o.hart o.answer o.answers (sym e) (each_member (λ j y. AnswerOf w k (core_at w m k) (old k) y) (parcel f.0 c x g.stamp) m.net (on_its_way f.0 c (class_of x) (parcel f.0 c x g.stamp) m.net first) (st k).ahead) in
      let move = (answers_move w m g k can).even in
      let one_now : answers_now g.event.kind k ≡ 1 = ap (λ y. answers_now y k) is ∙ answers_one f x o.hart o.answer k o.answers ∙ ap (one o.hart.0) e ∙ one_same o.hart.0 in
      let unserved : serves g.event.kind k ≡ 0 = ap (λ y. serves y k) is in
      let few = few_answers w log m r k in
      let less_one = few.0 in
      let at_most = few.1 in
      stands_here w k g.done.next (old k) (after w m g).net (omega arith) (one_answer w (core_at w m k) (old k) g.done.next o.answer g.done.need answer does)
  get_stands f x is o mine k false here =
      stands_on w m g k (core_at w m k) (old k) can (ap (λ y. serves y k) is) (ap (λ y. answers_now y k) is ∙ answers_one f x o.hart o.answer k o.answers ∙ one_other o.hart.0 k (λ e. not_same k o.hart.0 here (sym e))) (st k)

  gets : (f : ClusterId) (x : Msg) → g.event.kind ≡ kind.Take f x → GetsAnswer w c g.done p q x → ReplayedStep w m g old (kind.Take f x)
  gets f x is o =
      let mine = is_same (cluster_of w o.hart.0) c (both_right (has_hart w o.hart) (cluster_of w o.hart.0 == c) o.own) in
      record {
        harts = old;
        replays = record { in_range = answer_names w.top x o.hart o.answer o.answers (is_below o.hart.0 (all_harts w) (both_left (has_hart w o.hart) (cluster_of w o.hart.0 == c) o.own)); stays = λ k. refl };
        stands = λ k. subst (λ s. Stands w k s (old k) (after w m g).net) (sym (moved o.hart g.done.next mine o.cores k)) (get_stands f x is o mine k (k == o.hart.0) refl);
      }

  replay_by : (e : Kind) → g.event.kind ≡ e → Turn w c g.done p q e → ReplayedStep w m g old e
  replay_by _ is (Works e o) = works e is o
  replay_by _ is (Rests e o) = record { harts = old; replays = o.replays old old (λ k. refl); stands = all_stand o.cores (λ k. subst (λ y. Apart y k) (sym is) (o.apart k)) }
  replay_by _ is (Sends h x fits cores) = sends h x is fits cores
  replay_by _ is (Grants a fits cores) = grants a is fits cores
  replay_by _ is (Frees f a fits cores) = frees_it f a is fits cores
  replay_by _ is (Gets f x o) = gets f x is o

  -- each step
  pub replay_step : ReplayedStep w m g old g.event.kind
  replay_step = replay_by g.event.kind refl (turn w c g.event.kind g.done p can.cluster can.steps.guard (cases_apply w log m g r can))
