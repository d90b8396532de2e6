-- While a cluster has a line to own and waits for acknowledgements, what it commits is nowhere else.
use Rattle.std.proofs.Common.{◌≡◌, ◌≢◌, ℕ, zero, suc, ◌+◌, ◌≤◌, ◌<◌, ◌==◌, Bool, true, false, cond, None, Some, List, [], ◌∷◌, ◌++◌, length, take, refl, sym, ap, ◌∙◌, subst, arith}
use Rattle.std.proofs.lemmas.Bool.Decides.{nat_tests}
use Rattle.dash_base.specs.declared.id.ClusterId.{ClusterId}
use Rattle.dash_base.specs.declared.line.Line.{Line}
use Rattle.dash_msg.specs.declared.msg.Msg.TheVariants.{DataEx}
use Rattle.dash_event.specs.declared.event.Event.{Event}
use Rattle.dash_event.specs.declared.event.Kind.TheVariants as kind
use Rattle.dash_model.specs.Maps.{weigh}
use Rattle.dash_model.specs.Config.{Config, cluster_id, line_id, lines, home_of}
use Rattle.dash_model.specs.Cell.{Copy, NoCopy, Held, Asked, Poisoned, Came, Refused, Slot, NoSlot, Reads, Owns, Acks, NoAcks, Counting, Expects, Cell}
use Rattle.dash_model.specs.OnLine.{on, owned, came_own, counts_to, one}
use Rattle.dash_model.specs.Acts.{Act, Commit, owe}
use Rattle.dash_model.specs.Replies.{counted}
use Rattle.dash_model.specs.Log.{commits_of, commits_before}
use Rattle.dash_model.specs.Owed.{IsGivenToOwn}
use Rattle.dash_model.specs.Machine.{Machine, Step, part_after, CanHappen, after, Reaches}
use Rattle.dash_model.specs.LineFacts.{cell_at}
use Rattle.dash_model.specs.PendingFacts.{PendingLinesAreKept}
use Rattle.dash_model.proofs.LineState.{State, IsNext, MayAct}
use Rattle.dash_model.proofs.Along.{along, at}
use Rattle.dash_model.proofs.Facts.{Place, AtHome, At, Back, Moving, holds, Counted, counting, Facts}
use Rattle.dash_model.proofs.Tests.{is_same, not_same}
use Rattle.dash_model.proofs.OnNet.{all-member}
use Rattle.dash_model.proofs.Everywhere.{CopyHas, SlotHas, MsgHas, Everywhere}
use Rattle.dash_model.proofs.Views.{content_by}
use Rattle.dash_model.proofs.Lift.{Holds, keeps_line}
use Rattle.dash_model.proofs.InRuns.{in_runs}
use Rattle.dash_model.proofs.Reached.{IsAt, each_reached}
use Rattle.dash_model.proofs.LogPlaces.{at_last, placed}
use Rattle.dash_model.proofs.OwedSince.{Gives, given_first, given_by, past}
use Rattle.dash_model.proofs.Alone.{is_owns, Alone}
use Rattle.dash_model.proofs.OwedEntry.{Entered, Stays, Begins, Ends, Owes, Counts, Told}
use Rattle.dash_model.proofs.OwedStep.{cell_step}
use Rattle.dash_model.proofs.OwedFacts.{agrees}
use Rattle.dash_model.proofs.HiddenCopy.{hide, hide_all, shown_copy, shown_slot, take_hidden, act_hidden}
use Rattle.dash_model.proofs.LineViews.{LineStep, Rests, Does_act, Takes_one, line_step}
use Rattle.dash_model.proofs.LineFacts.{carried_has}

-- positions
take_all : (log more : List Event) → take (length log) (log ++ more) ≡ log
take_all [] more = refl
take_all (x ∷ xs) more = ap (λ ys. x ∷ ys) (take_all xs more)

take_first : (log more : List Event) (i : ℕ) → i < length log → take i (log ++ more) ≡ take i log
take_first [] more i low = absurd (omega arith)
take_first (x ∷ xs) more zero low = refl
take_first (x ∷ xs) more (suc i) low = ap (λ ys. x ∷ ys) (take_first xs more i (omega arith))

longer : (log : List Event) (e : Event) (i : ℕ) → i < length log → i < length (log ++ e ∷ [])
longer [] e i low = absurd (omega arith)
longer (x ∷ xs) e zero low = omega arith
longer (x ∷ xs) e (suc i) low = let r = longer xs e i (omega arith) in omega arith

shorter : (log : List Event) (e : Event) → length log < length (log ++ e ∷ [])
shorter [] e = omega arith
shorter (x ∷ xs) e = let r = shorter xs e in omega arith

-- contents of these versions at most
abbrev pub AtMost : ℕ → Line → Type 0
AtMost n d = d.version ≤ n

-- the cluster last took the line at a position, and all but its own copy is as old
pub record Keeps (w : Config) (log : List Event) (l c : ℕ) (m : Machine) : Type 0 where
  pub at : ℕ
  pub before : at < length log
  pub given : IsGivenToOwn log at (cluster_id c) (line_id l)
  pub last : (i : ℕ) → IsGivenToOwn log i (cluster_id c) (line_id l) → at < i → ⊥
  pub beyond : Everywhere (AtMost (commits_before log at (line_id l))) (hide c (along w l m))

-- the entry knows its number
pub record Knows (a : Acks) : Type 0 where
  pub expected : ℕ
  pub got : ℕ
  pub owed : List ℕ
  pub is : a ≡ Expects expected got owed

knows_some : (a : Acks) → Knows a → a ≢ NoAcks
knows_some NoAcks k e = absurd (let z = k.is in cc)
knows_some (Counting g o) k e = absurd (cc)
knows_some (Expects n g o) k e = absurd (cc)

knows_owe : (h : ℕ) (a : Acks) → Knows (owe h a) → Knows a
knows_owe h NoAcks k = absurd (let z = k.is in cc)
knows_owe h (Counting g o) k = absurd (let z = k.is in cc)
knows_owe h (Expects n g o) k = record { expected = n; got = g; owed = o; is = refl }

knows_counted : (a : Acks) → Knows (counted a) → Knows a
knows_counted NoAcks k = absurd (let z = k.is in cc)
knows_counted (Counting g o) k = absurd (let z = k.is in cc)
knows_counted (Expects n g o) k = record { expected = n; got = g; owed = o; is = refl }

-- an entry that knows its number after an event of its cluster knew it before, where the event doesn't give the line; or the event gave it
data Since (l c : ℕ) (e : Event) (a : Acks) : Type 0 where
  Knew : Knows a → (Gives e (cluster_id c) (line_id l) → ⊥) → Since l c e a
  Given : (f : ClusterId) (d : Line) (n : ℕ) → e.kind ≡ kind.Take f (DataEx (line_id l) d n) → Since l c e a

since : (w : Config) (c l : ℕ) (e : Event) (a b : Acks) → Entered w c l e.kind a b → Knows b → Since l c e a
since w c l e a b (Stays to q) k = Knew (subst Knows to k) (λ g. q.gives g.from g.copy g.count g.takes)
since w c l e a b (Begins from to q) k = absurd (let z = sym to ∙ k.is in cc)
since w c l e a b (Ends o from to q) k = absurd (let z = sym to ∙ k.is in cc)
since w c l e a b (Owes h v mine is only i j takes told to) k = Knew (knows_owe h.0 a (subst Knows to k)) (λ g. takes g.from (DataEx (line_id l) g.copy g.count) g.takes)
since w c l e a b (Counts f m is off i j some to) k = Knew (knows_counted a (subst Knows to k)) (λ g. off g.copy g.count (let z : kind.Take f m ≡ kind.Take g.from (DataEx (line_id l) g.copy g.count) = sym is ∙ g.takes in cc))
since w c l e a b (Told f d n g o is from to) k = Given f d n is

-- only one cluster has the token
one_holder : (p : Place) (c k : ℕ) → holds p c ≡ 1 → holds p k ≡ 1 → k ≡ c
one_holder AtHome c k e f = absurd (omega arith)
one_holder (Back o) c k e f = absurd (omega arith)
one_holder (At o) c k e f = grind (arith, nat_tests)
one_holder (Moving o r) c k e f = grind (arith, nat_tests)

pub holds_most : (p : Place) (k : ℕ) → holds p k ≤ 1
holds_most AtHome k = omega arith
holds_most (Back o) k = omega arith
holds_most (At o) k = grind (arith, nat_tests)
holds_most (Moving o r) k = grind (arith, nat_tests)

knows_holds : (s : Slot) (n g : ℕ) (o : List ℕ) (x d h : ℕ) → Counted s (Expects n g o) x d h → h ≡ 1
knows_holds (Owns i t Asked) n g o x d h k = absurd k
knows_holds (Owns i t Refused) n g o x d h k = absurd k
knows_holds (Owns i t Poisoned) n g o x d h k = absurd k
knows_holds (Owns i t (Came y)) n g o x d h k = k.3
knows_holds (Reads i t p) n g o x d h k = k.3
knows_holds NoSlot n g o x d h k = k.3

pub has_token : (h c : ℕ) (s : State) (p : Place) → Facts h s p c → Knows (s.cells c).acks → holds p c ≡ 1
has_token h c s p f k = knows_holds (s.cells c).slot k.expected k.got k.owed (counting c s) (weigh (counts_to c) s.net) (holds p c) (subst (λ a. Counted (s.cells c).slot a (counting c s) (weigh (counts_to c) s.net) (holds p c)) k.is f.counts)

next_owned : (d : Line) (c : Copy) → IsNext d c → owned c ≡ 1
next_owned d (Held hs (Some o) e) k = refl
next_owned d (Held hs None e) k = absurd k
next_owned d NoCopy k = absurd k

others_rest : (w : Config) (l c k : ℕ) (v : Line) (m : Machine) (y : Act) → Holds w l v m → Knows (cell_at l m c).acks → MayAct y (cell_at l m k) → k ≢ c → (t : ℕ) (d : Line) → y ≡ Commit t d → ⊥
others_rest w l c k v m y h knows may off t d is =
    let s = along w l m in
    let p = h.invariant.place in
    let here = has_token (home_of w l) c s p (h.invariant.known c).facts knows in
    let next : IsNext d (s.cells k).copy = subst (λ z. MayAct z (s.cells k)) is may in
    let one = next_owned d (s.cells k).copy next in
    let token = (h.invariant.known k).facts.tokens.token in
    let most = holds_most p k in
    off (one_holder p c k here (omega arith))

-- a step while the entry knows its number
stays_hidden : (w : Config) (l c n : ℕ) (v : Line) (m : Machine) (g : Step) → Holds w l v m → Knows (cell_at l m c).acks → LineStep w l m g → Everywhere (AtMost n) (hide c (along w l m)) → Everywhere (AtMost n) (hide c (along w l (after w m g)))
stays_hidden w l c n v m g h k (Rests e) old = subst (λ s. Everywhere (AtMost n) (hide c s)) (sym e) old
stays_hidden w l c n v m g h k (Does_act a may e) old = subst (λ s. Everywhere (AtMost n) (hide c s)) (sym e) (act_hidden (AtMost n) (at w l) (along w l m) c g.event.stamp g.event.cluster.0 a (knows_some (cell_at l m c).acks k) may (others_rest w l c g.event.cluster.0 v m a h k may) old)
stays_hidden w l c n v m g h k (Takes_one f x of first e) old = subst (λ s. Everywhere (AtMost n) (hide c s)) (sym e) (take_hidden (AtMost n) (at w l) (along w l m) c g.event.stamp g.event.cluster.0 f.0 g.stamp x (knows_some (cell_at l m c).acks k) first old)

keeps_on : (w : Config) (log : List Event) (l c : ℕ) (v : Line) (m : Machine) (g : Step) → l < lines w → CanHappen w m g → Holds w l v m → Knows (cell_at l m c).acks → (Gives g.event (cluster_id c) (line_id l) → ⊥) → Keeps w log l c m → Keeps w (log ++ g.event ∷ []) l c (after w m g)
keeps_on w log l c v m g low can h k none old =
    let e = g.event in
    record {
      at = old.at;
      before = longer log e old.at old.before;
      given = given_first log e old.at (cluster_id c) (line_id l) old.given;
      last = λ i q later. old.last i (given_by log e i (cluster_id c) (line_id l) q none (placed log e q.event i q.at)).0 later;
      beyond = subst (λ n. Everywhere (AtMost n) (hide c (along w l (after w m g)))) (sym (ap (λ es. length (commits_of es (line_id l))) (take_first log (e ∷ []) old.at old.before))) (stays_hidden w l c (commits_before log old.at (line_id l)) v m g h k (line_step w l v m g low can h) old.beyond);
    }

-- the step that gives the line
keeps_new : (w : Config) (log : List Event) (l c : ℕ) (m : Machine) (g : Step) (f : ClusterId) (d : Line) (n : ℕ) → l < lines w → CanHappen w m g → (k : IsAt w log l m) → g.event.cluster.0 ≡ c → g.event.kind ≡ kind.Take f (DataEx (line_id l) d n) → Keeps w (log ++ g.event ∷ []) l c (after w m g)
keeps_new w log l c m g f d n low can k here is =
    let e = g.event in
    let now : Holds w l k.content (after w m g) = subst (λ y. Holds w l y (after w m g)) (ap (content_by w (m.parts e.cluster.0) l k.content) is) (keeps_line w l k.content m g low can k.holds) in
    let all : k.content.version ≡ commits_before (log ++ e ∷ []) (length log) (line_id l) = k.told.version ∙ ap (λ es. length (commits_of es (line_id l))) (sym (take_all log (e ∷ []))) in
    record {
      at = length log;
      before = shorter log e;
      given = record { event = e; at = at_last log e; in_cluster = (λ i. record { 0 = here i }); from = f; copy = d; count = n; takes = is };
      last = λ i q later. past log e i q.event (placed log e q.event i q.at) later;
      beyond = hide_all (AtMost (commits_before (log ++ e ∷ []) (length log) (line_id l))) c (along w l (after w m g)) (subst (λ z. Everywhere (AtMost z) (along w l (after w m g))) all now.newest);
    }

abbrev pub KeepsWhere : Config → ℕ → ℕ → List Event → Machine → Type 0
KeepsWhere w l c log m = Knows (cell_at l m c).acks → Keeps w log l c m

keeps_by : (w : Config) (log : List Event) (l c : ℕ) (m : Machine) (g : Step) → l < lines w → CanHappen w m g → (k : IsAt w log l m) → g.event.cluster.0 ≡ c → Since l c g.event (cell_at l m c).acks → KeepsWhere w l c log m → Keeps w (log ++ g.event ∷ []) l c (after w m g)
keeps_by w log l c m g low can k here (Knew knew none) old = keeps_on w log l c k.content m g low can k.holds knew none (old knew)
keeps_by w log l c m g low can k here (Given f d n is) old = keeps_new w log l c m g f d n low can k here is

keeps_if : (w : Config) (log : List Event) (l c : ℕ) (m : Machine) (g : Step) (b : Bool) → (c == g.event.cluster.0) ≡ b → l < lines w → CanHappen w m g → Reaches w log m → KeepsWhere w l c log m → Knows ((cond b (part_after w g.event.cluster.0 g (m.parts g.event.cluster.0)) (m.parts c)).cells l).acks → Keeps w (log ++ g.event ∷ []) l c (after w m g)
keeps_if w log l c m g true is low can r old k =
    let s : c ≡ g.event.cluster.0 = is_same c g.event.cluster.0 is in
    let i = each_reached w log m l low r in
    let j = g.event.cluster.0 in
    let step = cell_step w l i.content m j g.stamp g.event.kind g.done low can.steps.guard can.head i.holds (agrees w log m l j low r).alone in
    subst (λ y. Keeps w (log ++ g.event ∷ []) l y (after w m g)) (sym s) (keeps_by w log l j m g low can i refl (since w j l g.event (cell_at l m j).acks ((part_after w j g (m.parts j)).cells l).acks step.entered k) (subst (λ y. KeepsWhere w l y log m) s old))
keeps_if w log l c m g false is low can r old k =
    let i = each_reached w log m l low r in
    keeps_on w log l c i.content m g low can i.holds k (λ q. not_same c g.event.cluster.0 is (sym (ap (λ (y : ClusterId). y.0) q.in_cluster))) (old k)

keeps : (w : Config) (log : List Event) (m : Machine) (l c : ℕ) → l < lines w → Reaches w log m → KeepsWhere w l c log m
keeps w log m l c low r =
    in_runs w (KeepsWhere w l c) (λ k. absurd (let z = k.is in cc)) (λ es n g reached can old k. keeps_if w es l c n g (c == g.event.cluster.0) refl low can reached old k) log m r

-- where the line is there and the entry is too, it knows its number
counting_asks : (s : Slot) (g : ℕ) (o : List ℕ) (x d h : ℕ) → Counted s (Counting g o) x d h → (is_owns s ≡ 1) × (came_own s ≡ 0)
counting_asks (Owns i t Asked) g o x d h k = (refl, refl)
counting_asks (Owns i t Refused) g o x d h k = (refl, refl)
counting_asks (Owns i t Poisoned) g o x d h k = absurd k
counting_asks (Owns i t (Came y)) g o x d h k = absurd k
counting_asks (Reads i t p) g o x d h k = absurd k
counting_asks NoSlot g o x d h k = absurd k

knows_by : (a : Cell) (k : Acks) (x d h : ℕ) → Counted a.slot k x d h → Alone a → 1 ≤ owned a.copy + came_own a.slot → k ≢ NoAcks → Knows k
knows_by a NoAcks x d h f alone one some = absurd (some refl)
knows_by a (Counting g o) x d h f alone one some = absurd (let q = counting_asks a.slot g o x d h f in let i = q.0 in let j = q.1 in omega arith)
knows_by a (Expects n g o) x d h f alone one some = record { expected = n; got = g; owed = o; is = refl }

pub pending_lines_are_kept : PendingLinesAreKept
pending_lines_are_kept w log m l c low r pending =
    let i = each_reached w log m l low r in
    let s = along w l m in
    let knows = knows_by (cell_at l m c) (cell_at l m c).acks (counting c s) (weigh (counts_to c) s.net) (holds i.holds.invariant.place c) (i.holds.invariant.known c).facts.counts (agrees w log m l c low r).alone pending.has pending.waits in
    let k = keeps w log m l c low r knows in
    let P = AtMost (commits_before log k.at (line_id l)) in
    record {
      at = k.at;
      given = k.given;
      last = k.last;
      memory = k.beyond.mem;
      copies = λ x hs o d off is. subst (CopyHas P) is (shown_copy P c s x k.beyond off);
      to_read = λ x n h d is. subst (SlotHas P) is (shown_slot P c s x k.beyond);
      to_own = λ x n h d is. subst (SlotHas P) is (shown_slot P c s x k.beyond);
      messages = λ q d on_way carries. carried_has P q.msg d carries (all-member (λ p. MsgHas P p.msg) q (on l m.net) on_way k.beyond.net);
    }
