-- An SC succeeds only by the last LR of its hart, which is of the same word, and since then the hart did no SC, and no other hart committed a write of the word.
use Rattle.std.proofs.Common.{Bool, List, Option, Some, [], ap, arith, cond, false, length, map, refl, subst, sym, true, unwrap_or, ℕ, ◌++◌, ◌<◌, ◌==◌, ◌∙◌, ◌∷◌, ◌≡◌, ◌≢◌, ◌≤◌}
use Rattle.dash_base.specs.declared.id.HartId.{HartId}
use Rattle.dash_base.specs.declared.id.LineId.{LineId}
use Rattle.dash_base.specs.declared.id.WordAddr.{WordAddr}
use Rattle.dash_base.specs.declared.instr.Labels.{Labels}
use Rattle.dash_base.specs.declared.line.Line.{Line}
use Rattle.dash_base.specs.declared.need.Need.TheVariants as needed
use Rattle.dash_base.specs.declared.ops.AmoOp.{AmoOp}
use Rattle.dash_base.specs.declared.ops.AmoOp.TheVariants.{Sc}
use Rattle.dash_event.specs.Offered.{offered}
use Rattle.dash_event.specs.Records.{accesses_in, unseen}
use Rattle.dash_event.specs.declared.access.Access.{Access}
use Rattle.dash_event.specs.declared.access.Op.TheVariants as op
use Rattle.dash_event.specs.declared.event.Event.{Event}
use Rattle.dash_event.specs.declared.event.Kind.{Kind}
use Rattle.dash_event.specs.declared.event.Kind.TheVariants as kind
use Rattle.dash_model.specs.Admissible.{IsCommitOf, IsReservedBefore}
use Rattle.dash_model.specs.Cell.{Copy, Held, NoCopy}
use Rattle.dash_model.specs.Config.{Config, cluster_of, line_at, line_id, lines}
use Rattle.dash_model.specs.Guard.{Guard}
use Rattle.dash_model.specs.HartGuards.{HasReserved, number_of}
use Rattle.dash_model.specs.HartRows.{HartEffect}
use Rattle.dash_model.specs.History.{version_of}
use Rattle.dash_model.specs.LineFacts.{cell_at}
use Rattle.dash_model.specs.Log.{Commits, IsAccessEvent, IsEventAt}
use Rattle.dash_model.specs.Machine.{CanHappen, IsRun, Machine, Reaches, Step, after, event_of, part_after}
use Rattle.dash_model.specs.Part.{Part, Processor}
use Rattle.dash_model.specs.Row.{row}
use Rattle.dash_model.specs.Words.{content, held_by, in_m, word_in}
use Rattle.dash_model.proofs.CommitPlaces.{commit_at_most, commit_line_is, commits_next, rmw_guard, rmw_line_is}
use Rattle.dash_model.proofs.Happened.{Happened, happened}
use Rattle.dash_model.proofs.HartRuns.{hart_at}
use Rattle.dash_model.proofs.InRuns.{in_runs}
use Rattle.dash_model.proofs.KeptReservations.{AreHeld, Gone, IsUse, Less, New, NoUse, Old, Reserving, reservations, used_here}
use Rattle.dash_model.proofs.LineFacts.{runs_keep_lines}
use Rattle.dash_model.proofs.LogPlaces.{AtEnd, EventPlaced, InFront, event_at_last, event_front, event_of_front, event_placed, length_more, none_after}
use Rattle.dash_model.proofs.Numbered.{current_version}
use Rattle.dash_model.proofs.ReservedCopies.{CopyStep, Fresh, Same, copy_step}
use Rattle.dash_model.proofs.Tests.{is_same, not_same}

-- the log has the LR of a reservation of hart h, which did no LR or SC since; and each commit of the line by another hart since is of a version above v
pub record IsReservedIn (w : Config) (log : List Event) (h a v : ℕ) : Type 0 where
  pub inside : line_at w a < lines w
  pub at : ℕ
  pub reserve : Access
  pub level : ℕ
  pub is_at : IsEventAt log at (kind.Load reserve level)
  pub before : at < length log
  pub is_reserve : reserve.op ≡ op.Reserve
  pub same_hart : reserve.hart.0 ≡ h
  pub same_word : reserve.word.0 ≡ a
  pub last : (j : ℕ) (b : Access) → IsAccessEvent log j b → b.hart.0 ≡ h → IsUse b.op → at < j → ⊥
  pub newer : (j : ℕ) (k : Kind) (t : HartId) (x : ℕ) → IsEventAt log j k → Commits k t (line_id (line_at w a)) x → t.0 ≢ h → at < j → v < x

-- the version of the copy of a hart's cluster
abbrev pub version_at : Config → Machine → ℕ → ℕ → ℕ
version_at w m h a = (content (cell_at (line_at w a) m (cluster_of w h)).copy).version

-- each reservation is held, and was made in the log
pub record AreReserved (w : Config) (log : List Event) (m : Machine) : Type 0 where
  pub held : (c : ℕ) → AreHeld w (m.parts c)
  pub made : (h a : ℕ) → (hart_at w m h).reserved ≡ Some a → IsReservedIn w log h a (version_at w m h a)

module _ (w : Config) (log : List Event) (e : Event) where
  -- LR now
  reserved_now : (h a v : ℕ) (r : Access) (level : ℕ) → e.kind ≡ kind.Load r level → r.op ≡ op.Reserve → r.hart.0 ≡ h → r.word.0 ≡ a → line_at w a < lines w → IsReservedIn w (log ++ e ∷ []) h a v
  reserved_now h a v r level is use_is mine word inside = record {
    inside = inside;
    at = length log;
    reserve = r;
    level = level;
    is_at = event_at_last log e ∙ ap Some is;
    before = (let more = length_more log e in omega arith);
    is_reserve = use_is;
    same_hart = mine;
    same_word = word;
    last = λ j b x who kept later. none_after log e j x.kind later (event_placed log e j x.kind x.at);
    newer = λ j k t x at of other later. absurd (none_after log e j k later (event_placed log e j k at));
  }

  still_last : (h at j : ℕ) (b : Access) (k : Kind) → ((j : ℕ) (b : Access) → IsAccessEvent log j b → b.hart.0 ≡ h → IsUse b.op → at < j → ⊥) → NoUse e.kind h → accesses_in k ≡ b ∷ [] → b.hart.0 ≡ h → IsUse b.op → at < j → EventPlaced log e j k → ⊥
  still_last h at j b k last none is mine uses later (InFront low there) = last j b (record { kind = k; at = there; is = is }) mine uses later
  still_last h at j b k last none is mine uses later (AtEnd end same) = none b (ap accesses_in same ∙ is) mine uses

  newer_by : (h l at v u : ℕ) → ((j : ℕ) (k : Kind) (t : HartId) (x : ℕ) → IsEventAt log j k → Commits k t (line_id l) x → t.0 ≢ h → at < j → v < x) → ((j : ℕ) (k : Kind) (t : HartId) (x : ℕ) → IsEventAt log j k → Commits k t (line_id l) x → v < x → u < x) → ((t : HartId) (x : ℕ) → Commits e.kind t (line_id l) x → t.0 ≢ h → u < x)
      → (j : ℕ) (k : Kind) (t : HartId) (x : ℕ) → Commits k t (line_id l) x → t.0 ≢ h → at < j → EventPlaced log e j k → u < x
  newer_by h l at v u newer old new j k t x of other later (InFront low there) = old j k t x there of (newer j k t x there of other later)
  newer_by h l at v u newer old new j k t x of other later (AtEnd end same) = new t x (subst (λ y. Commits y t (line_id l) x) (sym same) of) other

  -- where the hart does neither
  reserved_on : (h a v u : ℕ) → NoUse e.kind h → ((j : ℕ) (k : Kind) (t : HartId) (x : ℕ) → IsEventAt log j k → Commits k t (line_id (line_at w a)) x → v < x → u < x) → ((t : HartId) (x : ℕ) → Commits e.kind t (line_id (line_at w a)) x → t.0 ≢ h → u < x) → IsReservedIn w log h a v → IsReservedIn w (log ++ e ∷ []) h a u
  reserved_on h a v u none old new k = record {
    inside = k.inside;
    at = k.at;
    reserve = k.reserve;
    level = k.level;
    is_at = event_front log (e ∷ []) k.at (kind.Load k.reserve k.level) k.before k.is_at;
    before = (let more = length_more log e in let low = k.before in omega arith);
    is_reserve = k.is_reserve;
    same_hart = k.same_hart;
    same_word = k.same_word;
    last = λ j b x mine uses later. still_last h k.at j b x.kind k.last none x.is mine uses later (event_placed log e j x.kind x.at);
    newer = λ j y t x there of other later. newer_by h (line_at w a) k.at v u k.newer old new j y t x of other later (event_placed log e j y there);
  }

-- what a hart of the machine has reserved, at a step
reserving_by : (w : Config) (m : Machine) (c : ℕ) (e : Kind) (d : HartEffect) (h : ℕ) (q : Part) (b : Bool) → (cluster_of w h == c) ≡ b → q.harts ≡ (row w c e d (m.parts c)).part.harts → Guard w c e d (m.parts c) → Reserving w e h (m.parts (cluster_of w h)) (hart_at w m h) ((cond b q (m.parts (cluster_of w h))).harts h)
reserving_by w m c e d h q true is harts can =
    let each = (reservations w c e d (m.parts c) can).each h in
    subst (λ (f : ℕ → Processor). Reserving w e h (m.parts (cluster_of w h)) (hart_at w m h) (f h)) (sym harts) (subst (λ y. Reserving w e h (m.parts y) ((m.parts y).harts h) ((row w c e d (m.parts c)).part.harts h)) (sym (is_same (cluster_of w h) c is)) each)
reserving_by w m c e d h q false is harts can = Less (Old (λ b there mine uses. not_same (cluster_of w h) c is (ap (cluster_of w) (sym mine) ∙ used_here w c e d (m.parts c) can b there uses)) (λ a r. r))

held_by_part : (w : Config) (q p : Part) (b : Bool) → AreHeld w q → AreHeld w p → AreHeld w (cond b q p)
held_by_part w q p true x y = x
held_by_part w q p false x y = y

held_version : (k : Copy) (h n : ℕ) → held_by h k ≡ true → ((hs : List ℕ) (o : Option ℕ) (d : Line) → k ≡ Held hs o d → d.version ≤ n) → (content k).version ≤ n
held_version (Held hs o d) h n held low = low hs o d refl
held_version NoCopy h n held low = absurd (cc)

module _ (w : Config) (log : List Event) (m : Machine) (g : Step) (r : Reaches w log m) (can : CanHappen w m g) (k : AreReserved w log m) where
  held_next : (c : ℕ) → AreHeld w ((after w m g).parts c)
  held_next x =
      let c = g.event.cluster.0 in
      held_by_part w (part_after w c g (m.parts c)) (m.parts x) (x == c) ((reservations w c g.event.kind g.done (m.parts c) can.steps.guard).held (k.held c)) (k.held x)

  -- a hart that keeps its reservation
  kept_by : (h a : ℕ) → NoUse g.event.kind h → (hart_at w m h).reserved ≡ Some a → (o : IsReservedIn w log h a (version_at w m h a)) → CopyStep w log m g h (line_at w a) → IsReservedIn w (log ++ g.event ∷ []) h a (version_at w (after w m g) h a)
  kept_by h a none was o (Same e) =
      let c = g.event.cluster.0 in
      let l = line_at w a in
      let low = held_version (cell_at l m (cluster_of w h)).copy h (version_of log l) (k.held (cluster_of w h) h a was) ((runs_keep_lines w log m l o.inside r).newest.copies (cluster_of w h)) in
      reserved_on w log g.event h a (version_at w m h a) (version_at w (after w m g) h a) none (λ j y t x at of above. omega arith)
      (λ t x of other. (let next = commits_next w log m c g.event.kind g.done t l x r can.steps.guard o.inside of in omega arith)) o
  kept_by h a none was o (Fresh current alone) =
      let l = line_at w a in
      reserved_on w log g.event h a (version_at w m h a) (version_at w (after w m g) h a) none (λ j y t x at of above. absurd (let most = commit_at_most w log j y t l x r.run at of in omega arith))
      (λ t x of other. absurd (other (alone t x of))) o

  made_by : (h a : ℕ) → Reserving w g.event.kind h (m.parts (cluster_of w h)) (hart_at w m h) (hart_at w (after w m g) h) → (hart_at w (after w m g) h).reserved ≡ Some a → IsReservedIn w (log ++ g.event ∷ []) h a (version_at w (after w m g) h a)
  made_by h a (New x) is =
      let first = x.reserved in
      let same : x.access.word.0 ≡ a = cc in
      reserved_now w log g.event h a (version_at w (after w m g) h a) x.access x.level x.is x.is_reserve x.mine same (subst (λ y. line_at w y < lines w) same x.inside)
  made_by h a (Less (Old none fewer)) is =
      let was = fewer a is in
      let o = k.made h a was in
      kept_by h a none was o (copy_step w log m g r can h (line_at w a) o.inside (k.held (cluster_of w h) h a was) (held_next (cluster_of w h) h a is))
  made_by h a (Less (Gone none)) is = absurd (cc)

  reserved_step : AreReserved w (log ++ g.event ∷ []) (after w m g)
  reserved_step = record {
    held = held_next;
    made = λ h a is. (let c = g.event.cluster.0 in made_by h a (reserving_by w m c g.event.kind g.done h (part_after w c g (m.parts c)) (cluster_of w h == c) refl refl can.steps.guard) is);
  }

pub are_reserved : (w : Config) (log : List Event) (m : Machine) → Reaches w log m → AreReserved w log m
are_reserved w log m r = in_runs w (λ es n. AreReserved w es n) (record { held = λ c h a is. absurd (cc); made = λ h a is. absurd (cc) }) (λ es n g reached can k. reserved_step w es n g reached can k) log m r

-- an SC that succeeds has its word reserved
cond_reserved : (o : AmoOp) (h number old : ℕ) (word : WordAddr) (operand : ℕ) (labels : Labels) (a : Access) (res : Option ℕ) → Some (unseen a) ≡ offered h number (needed.Rmw word o operand labels) old true → a.op ≡ op.Cond → HasReserved o word.0 res → res ≡ Some word.0
cond_reserved Sc h number old word operand labels a res made is has = has
cond_reserved _ h number old word operand labels a res made is has = absurd (let amo : a.op ≡ op.Amo = ap (λ (y : Access). y.op) (ap (λ o. unwrap_or o (unseen a)) made) in cc)

line_same : (k : LineId) (l : ℕ) → k.0 ≡ l → k ≡ line_id l
line_same k l e i = record { 0 = e i }

-- a commit of the word by another hart
commits_word : (w : Config) (log : List Event) (j : ℕ) (k : Kind) (b : Access) → IsRun w log → IsEventAt log j k → IsCommitOf log k b → (x : ℕ) × Commits k b.hart (line_id (line_at w b.word.0)) x
commits_word w log j (kind.Commit h n l v) b run at (i, stored, hart, number) =
    (v, (sym hart, line_same l (line_at w b.word.0) (sym (commit_line_is w log j i h n l v b run at stored hart number)), refl))
commits_word w log j (kind.Rmw a l v) b run at is =
    (v, (ap (λ (y : Access). y.hart) is, line_same l (line_at w b.word.0) (sym (rmw_line_is w log j a l v run at) ∙ ap (λ (y : Access). line_at w y.word.0) is), refl))
commits_word w log j _ b run at is = absurd is

same_id : (s t : HartId) → s.0 ≡ t.0 → s ≡ t
same_id s t e i = record { 0 = e i }

reserved_at : (w : Config) (log : List Event) (i : ℕ) (a : Access) (line : LineId) (v : ℕ) → IsRun w log → Happened w log i (kind.Rmw a line v) → a.op ≡ op.Cond → IsReservedBefore log i a
reserved_at w log i a line v run y is =
    let c = y.step.event.cluster.0 in
    let p = y.state.parts c in
    let l = line_at w a.word.0 in
    let h = a.hart.0 in
    let can = rmw_guard w c y.step.done p a line v (subst (λ z. Guard w c z y.step.done p) y.is y.can.steps.guard) in
    let old = word_in w a.word.0 (content (p.cells line.0).copy) in
    let made = subst (λ n. Some (unseen a) ≡ offered h (number_of h p) n old true) can.next.need_is can.access.made in
    let reserved : (hart_at w y.state h).reserved ≡ Some a.word.0 = ap (λ z. ((y.state.parts z).harts h).reserved) can.next.mine ∙ cond_reserved can.op h (number_of h p) old a.word can.operand can.labels a (p.harts h).reserved made is can.reserved in
    let k = (are_reserved w y.before y.state y.reached).made h a.word.0 reserved in
    let owner : in_m h (cell_at l y.state c).copy ≡ true = subst (λ z. in_m h (p.cells z).copy ≡ true) (sym can.line) can.owner in
    let current = current_version w y.before y.state c h l k.inside y.reached owner in
    let shown : version_at w y.state h a.word.0 ≡ version_of y.before l = ap (λ z. (content (cell_at l y.state z).copy).version) can.next.mine ∙ current in
    let follow = y.step.event ∷ map event_of y.follow in
    let place = y.place in
    let low = k.before in
    let front : (j : ℕ) (x : Kind) → j < i → IsEventAt log j x → IsEventAt y.before j x = λ j x less at. event_of_front y.before follow j x (omega arith) (subst (λ es. IsEventAt es j x) y.whole at) in
    record {
      at = k.at;
      reserve = k.reserve;
      level = k.level;
      is_at = subst (λ es. IsEventAt es k.at (kind.Load k.reserve k.level)) (sym y.whole) (event_front y.before follow k.at (kind.Load k.reserve k.level) k.before k.is_at);
      before = omega arith;
      is_reserve = k.is_reserve;
      same_hart = same_id k.reserve.hart a.hart k.same_hart;
      same_word = λ z. record { 0 = k.same_word z };
      last = λ j b x kept mine later less. k.last j b (record { kind = x.kind; at = front j x.kind less x.at; is = x.is }) (ap (λ (z : HartId). z.0) mine) (subst IsUse (sym kept) tt) later;
      no_cond = λ j b x kept mine later less. k.last j b (record { kind = x.kind; at = front j x.kind less x.at; is = x.is }) (ap (λ (z : HartId). z.0) mine) (subst IsUse (sym kept) tt) later;
      no_commit = λ j happened b at commit word other later less. (
          let made_it = commits_word w log j happened b run at commit in
          let of : Commits happened b.hart (line_id l) made_it.0 = subst (λ (z : WordAddr). Commits happened b.hart (line_id (line_at w z.0)) made_it.0) word made_it.1 in
          let there = front j happened less at in
          let above = k.newer j happened b.hart made_it.0 there of (λ e. other (same_id b.hart a.hart e)) later in
          let most = commit_at_most w y.before j happened b.hart l made_it.0 y.reached.run there of in
          omega arith);
    }

-- each SC that succeeds
pub conds_are_reserved : (w : Config) (log : List Event) → IsRun w log → (i : ℕ) (a : Access) (line : LineId) (version : ℕ) → IsEventAt log i (kind.Rmw a line version) → a.op ≡ op.Cond → IsReservedBefore log i a
conds_are_reserved w log run i a line version at is = reserved_at w log i a line version run (happened w log i (kind.Rmw a line version) run at) is
