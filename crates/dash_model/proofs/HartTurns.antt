-- What each event does to the harts of its cluster, as a replay sees it: one does an instruction, has its lock message sent, or gets its answer; a home serves one; or none moves.
use Rattle.std.proofs.Common.{Bool, List, None, Option, Some, [], ap, cond, false, inl, inr, not, refl, subst, sym, true, unwrap_or, ℕ, ◌%◌, ◌&&◌, ◌++◌, ◌+◌, ◌<◌, ◌==◌, ◌∙◌, ◌∷◌, ◌≡◌, ◌⊎◌}
use Rattle.std.specs.Prelude.{IsSome}
use Rattle.dash_base.specs.declared.id.ClusterId.{ClusterId}
use Rattle.dash_base.specs.declared.id.HartId.{HartId}
use Rattle.dash_base.specs.declared.id.LineId.{LineId}
use Rattle.dash_base.specs.declared.id.WordAddr.{WordAddr}
use Rattle.dash_base.specs.declared.instr.Labels.{Labels}
use Rattle.dash_base.specs.declared.need.HintKind.TheVariants.{Exclusive, Fetch, Shared}
use Rattle.dash_base.specs.declared.need.Need.{Need}
use Rattle.dash_base.specs.declared.need.Need.TheVariants as needed
use Rattle.dash_base.specs.declared.ops.AmoOp.{AmoOp}
use Rattle.dash_base.specs.declared.ops.AmoOp.TheVariants.{Sc}
use Rattle.dash_msg.specs.declared.msg.Msg.{Msg}
use Rattle.dash_msg.specs.declared.msg.Msg.TheVariants.{Ack, Data, DataEx, FwdRead, FwdReadEx, Inval, LockAsk, LockGrant, Nak, Read, ReadEx, SharingBack, Transfer, TransferAck, Unlock, UnlockAck, WriteBack}
use Rattle.dash_event.specs.Effects.{hart_of, reply}
use Rattle.dash_event.specs.Offered.{load_op, offered}
use Rattle.dash_event.specs.Records.{records_in, unseen}
use Rattle.dash_event.specs.declared.access.Access.{Access}
use Rattle.dash_event.specs.declared.access.Seen.{Seen}
use Rattle.dash_event.specs.declared.access.Seen.TheVariants as seen
use Rattle.dash_event.specs.declared.event.Kind.{Kind}
use Rattle.dash_event.specs.declared.event.Kind.TheVariants as kind
use Rattle.dash_event.specs.declared.step_record.StepRecord.{StepRecord}
use Rattle.dash_event.specs.declared.step_record.StepRecord.TheVariants as step
use Rattle.write_buffer.specs.Look.{look_by, newest_of}
use Rattle.write_buffer.specs.declared.entry.Entry.{Entry as Stored}
use Rattle.write_buffer.specs.declared.entry.Look.{Look}
use Rattle.write_buffer.specs.declared.entry.Look.TheVariants.{Hit, None as NoStore, Wait}
use Rattle.hart_core.specs.HartState.{HartState}
use Rattle.hart_core.specs.Meaning.{Does}
use Rattle.dash_model.specs.Acts.{Act, Again, AskOwn, AskRead, BusOwn, BusRead, Commit, Install, act_row}
use Rattle.dash_model.specs.Cases.{FindsCase, TakesWell}
use Rattle.dash_model.specs.Cell.{NoSlot, Owns, Reads, Slot}
use Rattle.dash_model.specs.Config.{Config, all_harts, cluster_of, first_prefetch, home_of, line_at, line_id, lock_at}
use Rattle.dash_model.specs.Guard.{DoesIf, FreeFits, GrantFits, Guard, TakeFits}
use Rattle.dash_model.specs.HartGuards.{IsAccess, LoadsBy, LockSendFits, Retires, RetiresAt, number_of}
use Rattle.dash_model.specs.HartRows.{HartEffect, acts, ask_act, change, cleared, commit_row, entry_of, evict_act, hint_row, install, is_line, kept, load_row, loaded_from, retire, rmw_reserved, rmw_row, sc_fail_row, store_row}
use Rattle.dash_model.specs.LineRows.{take_row}
use Rattle.dash_model.specs.LockFacts.{IsLock}
use Rattle.dash_model.specs.LockRows.{answered, grant_row}
use Rattle.dash_model.specs.Part.{Part, Processor, Waiter}
use Rattle.dash_model.specs.Ranges.{applies, has_hart, has_space, in_range, own_hart, own_lock}
use Rattle.dash_model.specs.Replay.{Accesses, Harts, IsLoad, IsRmw, IsShownVersion, Moves, MovesAt, Names, NamesHarts, Replays}
use Rattle.dash_model.specs.Row.{line_msg_row, msg_row, msg_row_if, row}
use Rattle.dash_model.specs.Words.{content, held_by, word_in, written_in}
use Rattle.dash_model.proofs.HartSteps.{answers_now}
use Rattle.dash_model.proofs.LineSteps.{IsLineMsg}
use Rattle.dash_model.proofs.LockRange.{hart_below}
use Rattle.dash_model.proofs.Serving.{serves}
use Rattle.dash_model.proofs.Tests.{both, both_left, is_below, is_same}

-- the event neither serves hart k nor takes its answer
abbrev pub Apart : Kind → ℕ → Type 0
Apart e k = (serves e k ≡ 0) × (answers_now e k ≡ 0)

-- a hart of the cluster did an instruction that is no lock instruction
pub record DoesOne (w : Config) (c : ℕ) (d : HartEffect) (p q : Part) (e : Kind) : Type 0 where
  pub hart : HartId
  pub answer : ℕ
  pub mine : cluster_of w hart.0 ≡ c
  pub does : Does w.image w.top (p.harts hart.0).core d.need answer d.next
  pub other : IsLock d.need → ⊥
  pub apart : (k : ℕ) → Apart e k
  pub cores : (k : ℕ) → (q.harts k).core ≡ cond (k == hart.0) d.next (p.harts k).core
  pub recorded : (r : StepRecord) → records_in e ≡ r ∷ [] → hart_of r ≡ hart
  pub replays : (old new : Harts) → old hart.0 ≡ (p.harts hart.0).core → Moves w.image w.top old new hart d.need answer → Replays w.image w.top old e new

-- no hart moved
pub record DoesNone (w : Config) (p q : Part) (e : Kind) : Type 0 where
  pub apart : (k : ℕ) → Apart e k
  pub cores : (k : ℕ) → (q.harts k).core ≡ (p.harts k).core
  pub unrecorded : records_in e ≡ []
  pub replays : (old new : Harts) → ((g : ℕ) → new g ≡ old g) → Replays w.image w.top old e new

-- a message answers a hart so
abbrev pub Answers : Msg → HartId → ℕ → Type 0
Answers (LockGrant t) h x = (t ≡ h) × (x ≡ 0)
Answers (UnlockAck t old) h x = (t ≡ h) × (x ≡ old)
Answers m h x = ⊥

-- a hart of the cluster, whose lock instruction was sent, got its answer
pub record GetsAnswer (w : Config) (c : ℕ) (d : HartEffect) (p q : Part) (m : Msg) : Type 0 where
  pub hart : HartId
  pub answer : ℕ
  pub own : own_hart w c hart ≡ true
  pub answers : Answers m hart answer
  pub does : Does w.image w.top (p.harts hart.0).core d.need answer d.next
  pub cores : (k : ℕ) → (q.harts k).core ≡ cond (k == hart.0) d.next (p.harts k).core

-- what an event of cluster c makes of its part p
pub data Turn (w : Config) (c : ℕ) (d : HartEffect) (p q : Part) : Kind → Type 0 where
  Works : (e : Kind) → DoesOne w c d p q e → Turn w c d p q e
  Rests : (e : Kind) → DoesNone w p q e → Turn w c d p q e
  Sends : (g : HartId) (m : Msg) → LockSendFits w c g.0 m p → ((k : ℕ) → (q.harts k).core ≡ (p.harts k).core) → Turn w c d p q (kind.LockSend g m)
  Grants : (a : Access) → GrantFits w c a p → ((k : ℕ) → (q.harts k).core ≡ (p.harts k).core) → Turn w c d p q (kind.Grant a)
  Frees : (f : ClusterId) (a : Access) → FreeFits w c a p → ((k : ℕ) → (q.harts k).core ≡ (p.harts k).core) → Turn w c d p q (kind.Free f a)
  Gets : (f : ClusterId) (m : Msg) → GetsAnswer w c d p q m → Turn w c d p q (kind.Take f m)

module _ (w : Config) where
  cond_core : (b : Bool) (t s : Processor) (x : HartState) → t.core ≡ x → (cond b t s).core ≡ cond b x s.core
  cond_core true t s x e = e
  cond_core false t s x e = refl

  cleared_core : (l : ℕ) (b : Bool) (t : Processor) → (cond b (cleared w l t) t).core ≡ t.core
  cleared_core l true t = refl
  cleared_core l false t = refl

  acted_core : (l k : ℕ) (a : Act) (p : Part) → ((acts w l a p).part.harts k).core ≡ (p.harts k).core
  acted_core l k a p = cleared_core l (held_by k (p.cells l).copy && not (held_by k (act_row (line_id l) (home_of w l) a (p.cells l) (p.homes l)).cell.copy)) (p.harts k)

  changed_core : (g k : ℕ) (t : Processor) (p : Part) (x : HartState) → t.core ≡ x → ((change g t p).harts k).core ≡ cond (k == g) x (p.harts k).core
  changed_core g k t p x e = cond_core (k == g) t (p.harts k) x e

  same_core : (g k : ℕ) (p : Part) (b : Bool) → (k == g) ≡ b → cond b (p.harts g).core (p.harts k).core ≡ (p.harts k).core
  same_core g k p true e = ap (λ y. (p.harts y).core) (sym (is_same k g e))
  same_core g k p false e = refl

  -- a hart whose core stays
  still_core : (g k : ℕ) (t : Processor) (p : Part) → t.core ≡ (p.harts g).core → ((change g t p).harts k).core ≡ (p.harts k).core
  still_core g k t p e = changed_core g k t p (p.harts g).core e ∙ same_core g k p (k == g) refl

  hinted_core : (g k : ℕ) (slot : Option ℕ) (need : Need) (p : Part) → ((hint_row w g slot need p).part.harts k).core ≡ (p.harts k).core
  hinted_core g k (Some n) (needed.Hint Exclusive a) p = acted_core (line_at w a) k (AskOwn n g) p
  hinted_core g k (Some n) (needed.Hint Shared a) p = acted_core (line_at w a) k (AskRead n g) p
  hinted_core g k (Some n) (needed.Hint Fetch a) p = acted_core (line_at w a) k (AskRead n g) p
  hinted_core g k _ need p = refl

  loaded_core : (a : Access) (l : ℕ) (look : Look) (s : Processor) → (loaded_from w a l look s).core ≡ s.core
  loaded_core a l (Hit v k) s = refl
  loaded_core a l _ s = refl

  drained_core : (g l k : ℕ) (b : List Stored) (p : Part) → ((commit_row w g l b p).part.harts k).core ≡ (p.harts k).core
  drained_core g l k [] p = refl
  drained_core g l k (x ∷ xs) p =
      let next = record (p.harts g) { buffer = xs } in
      acted_core l k (Commit g (written_in w x.word.0 x.mask x.value (content (p.cells l).copy))) (change g next p) ∙ still_core g k next p refl

  kept_core : (l : ℕ) (slot : Slot) (b : Bool) (s : Processor) → (kept w l slot b s).core ≡ s.core
  kept_core l (Owns n t phase) false s = refl
  kept_core l (Owns n t phase) true s = refl
  kept_core l (Reads n t phase) b s = refl
  kept_core l NoSlot b s = refl

  granted_core : (i k : ℕ) (q : List Waiter) (p : Part) → ((grant_row w i q p).part.harts k).core ≡ (p.harts k).core
  granted_core i k [] p = refl
  granted_core i k (x ∷ xs) p = refl

  answered_core : (g k : ℕ) (b : Bool) (d : HartEffect) (p : Part) → b ≡ true → ((answered g b d p).harts k).core ≡ cond (k == g) d.next (p.harts k).core
  answered_core g k true d p e = changed_core g k (record (p.harts g) { core = d.next; asked = false }) p d.next refl
  answered_core g k false d p e = absurd (cc)

-- the access of a load
pub load_made : (h number : ℕ) (word : WordAddr) (mask : ℕ) (labels : Labels) (reserve : Bool) (old : ℕ) (a : Access) → Some (unseen a) ≡ offered h number (needed.Load word mask labels reserve) old false → a.op ≡ load_op reserve
load_made h number word mask labels reserve old a made = ap (λ (x : Access). x.op) (ap (λ o. unwrap_or o (unseen a)) made)

-- the access of an atomic operation
pub rmw_is : (h number old : ℕ) (word : WordAddr) (op : AmoOp) (operand : ℕ) (labels : Labels) (a : Access) → Some (unseen a) ≡ offered h number (needed.Rmw word op operand labels) old true → IsRmw a
rmw_is h number old word Sc operand labels a made =
    let is = ap (λ o. unwrap_or o (unseen a)) made in
    inr (ap (λ (x : Access). x.op) is, subst IsSome (sym (ap (λ (x : Access). x.written) is)) refl)
rmw_is h number old word _ operand labels a made = inl (ap (λ (x : Access). x.op) (ap (λ o. unwrap_or o (unseen a)) made))

-- the one record of an event
pub only_record : (e : Kind) (a : StepRecord) (h : HartId) → records_in e ≡ a ∷ [] → hart_of a ≡ h → (r : StepRecord) → records_in e ≡ r ∷ [] → hart_of r ≡ h
only_record e a h is mine r there = let x : r ≡ a = cc in ap hart_of x ∙ mine

module _ (w : Config) (c : ℕ) (d : HartEffect) (p : Part) (low : c < w.top.clusters) where
  -- an instruction that accesses no word
  works_at : (e : Kind) (q : Part) (h : HartId) (pc : ℕ) (need : Need) (a : StepRecord) → records_in e ≡ a ∷ [] → hart_of a ≡ h → RetiresAt w c h.0 pc need d p → (IsLock need → ⊥) → ((k : ℕ) → Apart e k) → ((k : ℕ) → (q.harts k).core ≡ cond (k == h.0) d.next (p.harts k).core)
      → ((old new : Harts) → MovesAt w.image w.top old new h pc need → Replays w.image w.top old e new) → Turn w c d p q e
  works_at e q h pc need a is mine can other apart cores replays = Works e (record {
    hart = h;
    answer = 0;
    mine = can.retires.mine;
    does = can.retires.does;
    other = λ y. other (subst IsLock can.retires.need_is y);
    apart = apart;
    cores = cores;
    recorded = only_record e a h is mine;
    replays = λ old new same moves. replays old new (record { moves = subst (λ n. Moves w.image w.top old new h n 0) can.retires.need_is moves; pc_is = can.pc_is ∙ ap (λ (s : HartState). s.pc) (sym same) });
  })

  -- an instruction that accesses one
  works_on : (e : Kind) (q : Part) (a : Access) (need : Need) (content : ℕ) (succeeds : Bool) (shown : Seen) → records_in e ≡ step.Access (unseen a) ∷ [] → Retires w c a.hart.0 need (reply a.read a.written) d p → (IsLock need → ⊥) → IsAccess a.hart.0 (number_of a.hart.0 p) d.need content succeeds shown a → ((k : ℕ) → Apart e k) → ((k : ℕ) → (q.harts k).core ≡ cond (k == a.hart.0) d.next (p.harts k).core)
      → ((old new : Harts) → Accesses w.image w.top old new a → Replays w.image w.top old e new) → Turn w c d p q e
  works_on e q a need content succeeds shown is can other access apart cores replays = Works e (record {
    hart = a.hart;
    answer = reply a.read a.written;
    mine = can.mine;
    does = can.does;
    other = λ y. other (subst IsLock can.need_is y);
    apart = apart;
    cores = cores;
    recorded = only_record e (step.Access (unseen a)) a.hart is refl;
    replays = λ old new same moves. replays old new (record {
      need = d.need;
      moves = moves;
      content = content;
      succeeds = succeeds;
      is_offered = ap (λ (s : HartState). offered a.hart.0 (s.retired + 1) d.need content succeeds) same ∙ sym access.made;
    });
  })

  names : (h : HartId) (e : Kind) (q : Part) → records_in e ≡ [] → cluster_of w h.0 ≡ c → ((k : ℕ) → Apart e k) → ((k : ℕ) → (q.harts k).core ≡ (p.harts k).core)
      → ((old new : Harts) → Names w.top old new h → Replays w.image w.top old e new) → Turn w c d p q e
  names h e q none mine apart cores replays = Rests e (record { apart = apart; cores = cores; unrecorded = none; replays = λ old new stays. replays old new (record { in_range = hart_below w h.0 c mine low; stays = stays }) })

  line_names : (m : Msg) → IsLineMsg m → NamesHarts w.top m
  line_names (LockAsk t n word v) i = absurd i
  line_names (Unlock t n word) i = absurd i
  line_names (LockGrant t) i = absurd i
  line_names (UnlockAck t old) i = absurd i
  line_names _ i = tt

  line_apart : (f : ClusterId) (m : Msg) → IsLineMsg m → (k : ℕ) → Apart (kind.Take f m) k
  line_apart f (LockAsk t n word v) i k = absurd i
  line_apart f (Unlock t n word) i k = absurd i
  line_apart f (LockGrant t) i k = absurd i
  line_apart f (UnlockAck t old) i k = absurd i
  line_apart f _ i k = (refl, refl)

  taken_line : (f : ClusterId) (l : LineId) (m : Msg) → IsLineMsg m → Turn w c d p (line_msg_row w c f.0 l m p).part (kind.Take f m)
  taken_line f l m i = Rests (kind.Take f m) (record {
    apart = line_apart f m i;
    cores = λ k. cleared_core w l.0 (held_by k (p.cells l.0).copy && not (held_by k (take_row (first_prefetch w) (home_of w l.0) c f.0 m (p.cells l.0) (p.homes l.0)).cell.copy)) (p.harts k);
    unrecorded = refl;
    replays = λ old new stays. record { in_range = line_names m i; stays = stays };
  })

  -- an answer to a hart whose lock instruction was sent
  gets : (f : ClusterId) (m : Msg) (h : HartId) (x : ℕ) (own asked : Bool) → own_hart w c h ≡ own → (p.harts h.0).asked ≡ asked → own ≡ true → asked ≡ true → Answers m h x → DoesIf (own && asked) w h.0 x d p → Turn w c d p (answered h.0 (p.harts h.0).asked d p) (kind.Take f m)
  gets f m h x true true mine is i j answers does = Gets f m (record { hart = h; answer = x; own = mine; answers = answers; does = does; cores = λ k. answered_core w h.0 k (p.harts h.0).asked d p is })
  gets f m h x true false mine is i j answers does = absurd (cc)
  gets f m h x false asked mine is i j answers does = absurd (cc)

  taken : (f : ClusterId) (m : Msg) → FindsCase w c f.0 m p → TakeFits w c m d p → Turn w c d p (msg_row w c f.0 m d p).part (kind.Take f m)
  taken f (Read q) well can = taken_line f q (Read q) tt
  taken f (ReadEx q) well can = taken_line f q (ReadEx q) tt
  taken f (FwdRead q r) well can = taken_line f q (FwdRead q r) tt
  taken f (FwdReadEx q r) well can = taken_line f q (FwdReadEx q r) tt
  taken f (Inval q r) well can = taken_line f q (Inval q r) tt
  taken f (WriteBack q x) well can = taken_line f q (WriteBack q x) tt
  taken f (SharingBack q x r) well can = taken_line f q (SharingBack q x r) tt
  taken f (Transfer q r) well can = taken_line f q (Transfer q r) tt
  taken f (Data q x) well can = taken_line f q (Data q x) tt
  taken f (DataEx q x n) well can = taken_line f q (DataEx q x n) tt
  taken f (Ack q) well can = taken_line f q (Ack q) tt
  taken f (TransferAck q) well can = taken_line f q (TransferAck q) tt
  taken f (Nak q) well can = taken_line f q (Nak q) tt
  taken f (LockAsk t n word v) well can = Rests (kind.Take f (LockAsk t n word v)) (record {
    apart = λ k. (refl, refl);
    cores = λ k. refl;
    unrecorded = refl;
    replays = λ old new stays. record { in_range = is_below t.0 (all_harts w) (both_left (has_hart w t) (own_lock w c word) well.range); stays = stays };
  })
  taken f (Unlock t n word) well can = (let no = well.case in absurd (cc))
  taken f (LockGrant t) well can = gets f (LockGrant t) t 0 (own_hart w c t) (p.harts t.0).asked refl refl well.range well.case (refl, refl) can
  taken f (UnlockAck t old) well can = gets f (UnlockAck t old) t old (own_hart w c t) (p.harts t.0).asked refl refl well.range well.case (refl, refl) can

  taken_if : (f : ClusterId) (m : Msg) (b : Bool) → b ≡ true → FindsCase w c f.0 m p → TakeFits w c m d p → Turn w c d p (msg_row_if b w c f.0 m d p).part (kind.Take f m)
  taken_if f m true is well can = taken f m well can
  taken_if f m false is well can = absurd (cc)

  -- a load is shown what its level tells
  level_is : (l n : ℕ) (b : Bool) → n ≡ cond b 1 2 → (n ≡ 1) ⊎ (n ≡ 2)
  level_is l n true e = inl e
  level_is l n false e = inr e

  -- the access of a load, by what the write buffer tells it
  record LoadIs (a : Access) (level : ℕ) : Type 0 where
    pub content : ℕ
    pub shown : Seen
    pub access : IsAccess a.hart.0 (number_of a.hart.0 p) d.need content false shown a
    pub load : IsLoad a level

  from_copy : (a : Access) (level : ℕ) (reserve : Bool) → a.op ≡ load_op reserve → IsShownVersion a level → IsLoad a level
  from_copy a level true is shown = inr (is, shown)
  from_copy a level false is shown = inl (is, inl shown)

  load_is : (a : Access) (level : ℕ) (labels : Labels) (reserve : Bool) (look : Look) → d.need ≡ needed.Load a.word a.mask labels reserve → LoadsBy w look a level reserve d p → LoadIs a level
  load_is a level labels reserve NoStore need from =
      let l = line_at w a.word.0 in
      let old = word_in w a.word.0 (content (p.cells l).copy) in
      let made = subst (λ n. Some (unseen a) ≡ offered a.hart.0 (number_of a.hart.0 p) n old false) need from.access.made in
      record {
        content = old;
        shown = seen.Line (content (p.cells l).copy).version;
        access = from.access;
        load = from_copy a level reserve (load_made a.hart.0 (number_of a.hart.0 p) a.word a.mask labels reserve old a made) (record {
          version = (content (p.cells l).copy).version;
          is = from.access.seen_is;
          in_caches = level_is l level (is_line l ((p.harts a.hart.0).l1 (l % w.top.l1))) from.level_is;
        });
      }
  load_is a level labels reserve (Hit value number) need from =
      let made = subst (λ n. Some (unseen a) ≡ offered a.hart.0 (number_of a.hart.0 p) n value false) need from.access.made in
      record {
        content = value;
        shown = seen.Own number;
        access = from.access;
        load = inl (load_made a.hart.0 (number_of a.hart.0 p) a.word a.mask labels reserve value a made ∙ ap load_op from.plain, inr (record { number = number; is = from.access.seen_is; in_buffer = from.level_is }));
      }
  load_is a level labels reserve Wait need from = absurd from

  -- the access that was made, of an instruction that needs this
  made_by : (a : Access) (need : Need) (old : ℕ) (succeeds : Bool) (shown : Seen) → d.need ≡ need → IsAccess a.hart.0 (number_of a.hart.0 p) d.need old succeeds shown a → Some (unseen a) ≡ offered a.hart.0 (number_of a.hart.0 p) need old succeeds
  made_by a need old succeeds shown is access = subst (λ n. Some (unseen a) ≡ offered a.hart.0 (number_of a.hart.0 p) n old succeeds) is access.made

-- each event
pub turn : (w : Config) (c : ℕ) (e : Kind) (d : HartEffect) (p : Part) → c < w.top.clusters → Guard w c e d p → TakesWell w c e p → Turn w c d p (row w c e d p).part e
unfolding row Guard
turn w c (kind.Alu h pc) d p low can well = works_at w c d p low (kind.Alu h pc) (retire h.0 d p) h pc needed.Alu (step.Plain h) refl refl can (λ y. y) (λ k. (refl, refl)) (λ k. changed_core w h.0 k (record (p.harts h.0) { core = d.next }) p d.next refl) (λ old new x. x)
turn w c (kind.Fence h pc) d p low can well = works_at w c d p low (kind.Fence h pc) (retire h.0 d p) h pc (needed.Fence can.waits) (step.Plain h) refl refl can.next (λ y. y) (λ k. (refl, refl)) (λ k. changed_core w h.0 k (record (p.harts h.0) { core = d.next }) p d.next refl) (λ old new x. record { waits = can.waits; next = x })
turn w c (kind.Hint h pc slot) d p low can well = works_at w c d p low (kind.Hint h pc slot) (hint_row w h.0 slot d.need (retire h.0 d p)).part h pc (needed.Hint can.kinds can.address) (step.Plain h) refl refl can.next (λ y. y) (λ k. (refl, refl)) (λ k. hinted_core w h.0 k slot d.need (retire h.0 d p) ∙ changed_core w h.0 k (record (p.harts h.0) { core = d.next }) p d.next refl) (λ old new x. record { hint = can.kinds; address = can.address; next = x })
turn w c (kind.Put h pc byte) d p low can well = works_at w c d p low (kind.Put h pc byte) (retire h.0 d p) h pc (needed.Put byte) (step.Byte h byte) refl refl can (λ y. y) (λ k. (refl, refl)) (λ k. changed_core w h.0 k (record (p.harts h.0) { core = d.next }) p d.next refl) (λ old new x. x)
turn w c (kind.Stop h pc end) d p low can well = works_at w c d p low (kind.Stop h pc end) (retire h.0 d p) h pc (needed.Stop end) (step.Stopped h end) refl refl can (λ y. y) (λ k. (refl, refl)) (λ k. changed_core w h.0 k (record (p.harts h.0) { core = d.next }) p d.next refl) (λ old new x. x)
turn w c (kind.Load a level) d p low can well =
    let look = look_by (newest_of a.word.0 (p.harts a.hart.0).buffer) a.mask in
    let next = record (p.harts a.hart.0) { core = d.next } in
    let l = line_at w a.word.0 in
    let is = load_is w c d p low a level can.labels can.reserve look can.next.need_is can.from in
    works_on w c d p low (kind.Load a level) (load_row w a d p).part a (needed.Load a.word a.mask can.labels can.reserve) is.content false is.shown refl can.next (λ y. y) is.access (λ k. (refl, refl)) (λ k. changed_core w a.hart.0 k (loaded_from w a l look next) p d.next (loaded_core w a l look next)) (λ old new x. (x, is.load))
turn w c (kind.Store a) d p low can well =
    let made = made_by w c d p low a (needed.Store a.word a.mask can.value) 0 false seen.Nothing can.next.need_is can.access in
    works_on w c d p low (kind.Store a) (store_row a d p).part a (needed.Store a.word a.mask can.value) 0 false seen.Nothing refl can.next (λ y. y) can.access (λ k. (refl, refl)) (λ k. changed_core w a.hart.0 k (record (p.harts a.hart.0) { core = d.next; buffer = (p.harts a.hart.0).buffer ++ entry_of a ∷ [] }) p d.next refl) (λ old new x. (x, ap (λ (y : Access). y.op) (ap (λ o. unwrap_or o (unseen a)) made), can.access.seen_is))
turn w c (kind.Commit h n l v) d p low can well = names w c d p low h (kind.Commit h n l v) (commit_row w h.0 l.0 (p.harts h.0).buffer p).part refl can.mine (λ k. (refl, refl)) (λ k. drained_core w h.0 l.0 k (p.harts h.0).buffer p) (λ old new x. x)
turn w c (kind.Rmw a l v) d p low can well =
    let next = record (p.harts a.hart.0) { core = d.next; reserved = rmw_reserved a.op (p.harts a.hart.0).reserved } in
    let need = needed.Rmw a.word can.op can.operand can.labels in
    let old = word_in w a.word.0 (content (p.cells l.0).copy) in
    let shown = seen.Line (content (p.cells l.0).copy).version in
    let made = made_by w c d p low a need old true shown can.next.need_is can.access in
    works_on w c d p low (kind.Rmw a l v) (rmw_row w a l.0 d p).part a need old true shown refl can.next (λ y. y) can.access (λ k. (refl, refl))
    (λ k. acted_core w l.0 k (Commit a.hart.0 (written_in w a.word.0 a.mask (unwrap_or a.written 0) (content (p.cells l.0).copy))) (change a.hart.0 next p) ∙ changed_core w a.hart.0 k next p d.next refl) (λ old new x. (x, rmw_is a.hart.0 (number_of a.hart.0 p) (word_in w a.word.0 (content (p.cells l.0).copy)) a.word can.op can.operand can.labels a made))
turn w c (kind.ScFail a) d p low can well =
    let need = needed.Rmw a.word Sc can.operand can.labels in
    let is = ap (λ o. unwrap_or o (unseen a)) (made_by w c d p low a need 0 false seen.Nothing can.next.need_is can.access) in
    works_on w c d p low (kind.ScFail a) (sc_fail_row a d p).part a need 0 false seen.Nothing refl can.next (λ y. y) can.access (λ k. (refl, refl)) (λ k. changed_core w a.hart.0 k (record (p.harts a.hart.0) { core = d.next; reserved = None }) p d.next refl) (λ old new x. (x, ap (λ (y : Access). y.op) is, ap (λ (y : Access). y.written) is, can.access.seen_is))
turn w c (kind.LockSend h m) d p low can well = Sends h m can (λ k. still_core w h.0 k (record (p.harts h.0) { asked = true }) p refl)
turn w c (kind.BusRead h l) d p low can well = names w c d p low h (kind.BusRead h l) (acts w l.0 (BusRead h.0) p).part refl can.mine (λ k. (refl, refl)) (λ k. acted_core w l.0 k (BusRead h.0) p) (λ old new x. x)
turn w c (kind.BusOwn h l) d p low can well = names w c d p low h (kind.BusOwn h l) (acts w l.0 (BusOwn h.0) p).part refl can.mine (λ k. (refl, refl)) (λ k. acted_core w l.0 k (BusOwn h.0) p) (λ old new x. x)
turn w c (kind.Evict h l) d p low can well = names w c d p low h (kind.Evict h l) (acts w l.0 (evict_act h.0 (p.cells l.0).copy) p).part refl can.mine (λ k. (refl, refl)) (λ k. acted_core w l.0 k (evict_act h.0 (p.cells l.0).copy) p) (λ old new x. x)
turn w c (kind.Ask slot h l own) d p low can well = names w c d p low h (kind.Ask slot h l own) (acts w l.0 (ask_act own slot h.0) p).part refl can.mine (λ k. (refl, refl)) (λ k. acted_core w l.0 k (ask_act own slot h.0) p) (λ old new x. x)
turn w c (kind.Again slot l) d p low can well = Rests (kind.Again slot l) (record { apart = λ k. (refl, refl); cores = λ k. acted_core w l.0 k Again p; unrecorded = refl; replays = λ old new stays. record { stays = stays } })
turn w c (kind.Install slot h l) d p low can well =
    let next = kept w l.0 (p.cells l.0).slot (held_by h.0 (p.cells l.0).copy) (p.harts h.0) in
    names w c d p low h (kind.Install slot h l) (install w h.0 l.0 p).part refl can.mine (λ k. (refl, refl)) (λ k. acted_core w l.0 k Install (change h.0 next p) ∙ still_core w h.0 k next p (kept_core w l.0 (p.cells l.0).slot (held_by h.0 (p.cells l.0).copy) (p.harts h.0))) (λ old new x. x)
turn w c (kind.Grant a) d p low can well = Grants a can (λ k. granted_core w (lock_at w a.word.0) k (p.locks (lock_at w a.word.0)).queue p)
turn w c (kind.Free f a) d p low can well = Frees f a can (λ k. refl)
turn w c (kind.Take f m) d p low can well = taken_if w c d p low f m (applies w c m p) (both (in_range w c m) (has_space w c m p) well.range well.room) well can
