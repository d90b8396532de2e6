-- The step of each event of an admissible log, on the state that the events before it lead to.
use Rattle.std.proofs.Common.{◌≡◌, ◌≢◌, inl, inr, ◌<◌, ◌≤◌, ℕ, suc, ◌+◌, Bool, true, false, List, [], ◌∷◌, ◌++◌, Some, refl, sym, ◌∙◌, ap, subst, arith, eq-eqb}
use Rattle.std.proofs.lemmas.Bool.Decides.{nat_tests}
use Rattle.std.proofs.lemmas.List.{append-nil}
use Rattle.std.specs.Prelude.{slice_get, IsSome, ◌==◌, if◌then◌else◌}
use Rattle.dash_base.specs.Words.{has_byte, byte_of_word}
use Rattle.dash_base.specs.declared.id.ClusterId.{ClusterId}
use Rattle.dash_base.specs.declared.id.HartId.{HartId}
use Rattle.dash_base.specs.declared.id.LineId.{LineId}
use Rattle.dash_base.specs.declared.topology.Topology.{Topology}
use Rattle.elf_load.specs.Image.{ImageView}
use Rattle.dash_base.specs.Places.{line_of, hart_count}
use Rattle.dash_event.specs.Records.{unseen, records_in}
use Rattle.dash_event.specs.declared.access.Access.{Access}
use Rattle.dash_event.specs.declared.access.Op.TheVariants as op
use Rattle.dash_event.specs.declared.event.Event.{Event}
use Rattle.dash_event.specs.declared.event.Kind.{Kind}
use Rattle.dash_event.specs.declared.event.Kind.TheVariants as kind
use Rattle.dash_event.specs.declared.step_record.StepRecord.{StepRecord}
use Rattle.dash_event.specs.declared.step_record.StepRecord.TheVariants as step
use Rattle.hart_core.specs.HartState.{HartState}
use Rattle.hart_core.specs.Meaning.{Does}
use Rattle.dash_base.specs.declared.need.Need.{Need}
use Rattle.hart_core.proofs.LawsOffered.{any_answer}
use Rattle.dash_event.specs.Offered.{bytes_under}
use Rattle.flat_model.specs.State.{FlatState, opening_state}
use Rattle.flat_model.specs.Step.{record_of, flat_state_after, IsFlatStep}
use Rattle.dash_event.specs.Effects.{hart_of, reply}
use Rattle.flat_model.specs.Run.{RunsTo}
use Rattle.flat_model.specs.Race.{IsRaceFree, IsProperlyLabelled}
use Rattle.flat_model.proofs.LawsOffered.{one_more_step, memory_at_end, locks_at_end}
use Rattle.dash_model.specs.Log.{IsEventAt}
use Rattle.dash_model.specs.LineContent.{word_at}
use Rattle.dash_model.specs.Coherent.{IsShownOwn, IsLockEvent}
use Rattle.dash_model.specs.Replay.{Harts, Accesses, IsLoad, IsRmw, IsShownVersion, IsShownStore}
use Rattle.dash_model.specs.Admissible.{IsAdmissible}
use Rattle.trace_merge.proofs.Places.{upto_more, made_by}
use Rattle.trace_merge.proofs.Offers.{HasShape}
use Rattle.trace_merge.proofs.Released.{steps}
use Rattle.trace_merge.proofs.AccessEvents.{IsRead, is_read, rmw_of_memory, shape_of}
use Rattle.trace_merge.proofs.Among.{rmw_shown, IsReader}
use Rattle.trace_merge.proofs.Writers.{same_under, AreRaceFree}
use Rattle.trace_merge.proofs.Bytes.{line_agrees, own_agrees}
use Rattle.trace_merge.proofs.Needs.{is_load, CanDo, can_succeed, can_ask, can_unlock, can_load, can_amo, CanDoOther, can_do_other}
use Rattle.trace_merge.proofs.Locks.{lock_agrees}
use Rattle.trace_merge.proofs.Reserved.{some_value, has_reserved}

-- the harts after one of them moved
moved_by : (old new : Harts) (hart : HartId) (g : ℕ) → ((i : ℕ) → i ≢ hart.0 → new i ≡ old i) → (b : Bool) → (g == hart.0) ≡ b → (if b then new hart.0 else old g) ≡ new g
moved_by old new hart g others true e = let same : g ≡ hart.0 = grind (arith, nat_tests) in ap new (sym same)
moved_by old new hart g others false e = sym (others g (λ same. (let t : (g == hart.0) ≡ true = eq-eqb g hart.0 same in cc)))

pub moved : (old new : Harts) (hart : HartId) → ((i : ℕ) → i ≢ hart.0 → new i ≡ old i) → (λ (g : ℕ). if g == hart.0 then new hart.0 else old g) ≡ new
moved old new hart others = λ i g. moved_by old new hart g others (g == hart.0) refl i

load_kind : (a : Access) (level : ℕ) → IsLoad a level → is_load a.op ≡ true
load_kind a level (inl load) = ap is_load load.0
load_kind a level (inr reserve) = ap is_load reserve.0

module _ (image : ImageView) (t : Topology) (log : List Event) (f : IsAdmissible image t log) (labelled : IsProperlyLabelled image t) where
  -- the records of the first n events lead to a state with the harts of the replay
  pub record IsRunTo (n : ℕ) : Type 0 where
    pub state : FlatState
    pub runs : RunsTo image t (steps log n) state
    pub harts : state.harts ≡ f.harts n

  abbrev pub AreRunsTo : ℕ → Type 0
  AreRunsTo n = (m : ℕ) → m ≤ n → IsRunTo m

  pub race_free : (n : ℕ) → AreRunsTo n → AreRaceFree image t log f n
  race_free n runs m le = let r = runs m le in labelled (steps log m) (record { final = r.state; runs = r.runs })

  pub with_record : (n : ℕ) (k : Kind) (r : StepRecord) (s new : FlatState) → IsEventAt log n k → records_in k ≡ r ∷ [] → RunsTo image t (steps log n) s
      → IsFlatStep image t s (hart_of r).0 r new → new.harts ≡ f.harts (suc n) → IsRunTo (suc n)
  with_record n k r s new at makes runs does harts =
      let more : steps log (suc n) ≡ steps log n ++ r ∷ [] = upto_more records_in log n ∙ ap (λ x. steps log n ++ x) (made_by records_in (slice_get log n) k at ∙ makes) in
      record {
        state = new;
        runs = subst (λ rs. RunsTo image t rs new) (sym more) (one_more_step image t (opening_state image t) (steps log n) s runs (hart_of r).0 r new does);
        harts = harts;
      }

  pub without_record : (n : ℕ) (k : Kind) (s : FlatState) → IsEventAt log n k → records_in k ≡ [] → RunsTo image t (steps log n) s → s.harts ≡ f.harts (suc n) → IsRunTo (suc n)
  without_record n k s at makes runs harts =
      let more : steps log (suc n) ≡ steps log n = upto_more records_in log n ∙ ap (λ x. steps log n ++ x) (made_by records_in (slice_get log n) k at ∙ makes) ∙ append-nil (steps log n) in
      record { state = s; runs = subst (λ rs. RunsTo image t rs s) (sym more) runs; harts = harts }

  -- an access that can be done is a step
  access_step : (s : FlatState) (h : HartId) (need : Need) (a : Access) (next : HartState) → h.0 < hart_count t → CanDo s h.0 ((s.harts h.0).retired + 1) need a
      → Does image t (s.harts h.0) need (reply a.read a.written) next → IsFlatStep image t s h.0 (step.Access a) (flat_state_after s (step.Access a) next)
  access_step s h need a next in_range can does = record {
    in_range = in_range;
    need = need;
    succeeds = can.succeeds;
    possible = can.possible;
    recorded = ap (record_of h.0 need) (sym can.is);
    next = next;
    does = does;
    after = refl;
  }

  -- the event at n, on the state that the events before it lead to
  pub record IsMet (n : ℕ) (s : FlatState) : Type 0 where
    pub before : AreRunsTo n
    pub runs : RunsTo image t (steps log n) s

  pub by_access : (n : ℕ) (s : FlatState) (k : Kind) (a : Access) → IsMet n s → IsEventAt log n k → records_in k ≡ step.Access (unseen a) ∷ [] → (e : Accesses image t s.harts (f.harts (suc n)) a)
      → CanDo s a.hart.0 ((s.harts a.hart.0).retired + 1) e.need (unseen a) → IsRunTo (suc n)
  by_access n s k a met at makes e can =
      with_record n k (step.Access (unseen a)) s (flat_state_after s (step.Access (unseen a)) (f.harts (suc n) a.hart.0)) at makes met.runs
      (access_step s a.hart e.need (unseen a) (f.harts (suc n) a.hart.0) e.moves.in_range can e.moves.does) (moved s.harts (f.harts (suc n)) a.hart e.moves.others)

  -- another access of these bytes stands last in a sequential run, which has no race
  record IsOther (n : ℕ) (s : FlatState) (a r : Access) : Type 0 where
    next : HartState
    does : IsFlatStep image t s a.hart.0 (step.Access r) (flat_state_after s (step.Access r) next)
    race_free : IsRaceFree (steps log n ++ step.Access r ∷ [])

  other : (n : ℕ) (s : FlatState) (a : Access) → IsMet n s → (e : Accesses image t s.harts (f.harts (suc n)) a)
      → (c : CanDoOther s a.hart.0 ((s.harts a.hart.0).retired + 1) e.need (unseen a)) → IsOther n s a c.access
  other n s a met e c =
      let r = c.access in
      let k = any_answer image t (s.harts a.hart.0) (f.harts (suc n) a.hart.0) e.need _ (reply r.read r.written) e.moves.does in
      let new = flat_state_after s (step.Access r) k.0 in
      let does : IsFlatStep image t s a.hart.0 (step.Access r) new = access_step s a.hart e.need r k.0 e.moves.in_range c.can k.1 in
      record {
        next = k.0;
        does = does;
        race_free = labelled (steps log n ++ step.Access r ∷ []) (record { final = new; runs = one_more_step image t (opening_state image t) (steps log n) s met.runs a.hart.0 (step.Access r) new does });
      }

  -- what is shown by a version stands in memory
  reads_line : (n : ℕ) (s : FlatState) (a r : Access) (v : ℕ) → IsMet n s → IsReader image t log f n a r v → r.mask ≡ a.mask → IsSome a.read
      → a.read ≡ Some (bytes_under a.mask (s.memory a.word.0))
  reads_line n s a r v met reads mask some =
      let value = some_value a.read some in
      let word = word_at image log (line_of t a.word) v a.word.0 in
      let shown : value.0 ≡ bytes_under a.mask word = f.coherent.reads_shown n a v value.0 reads.shown value.1 in
      let bytes : bytes_under a.mask (s.memory a.word.0) ≡ bytes_under a.mask word =
      same_under a.mask (s.memory a.word.0) word (λ x small has.
      line_agrees image t log f n a r v x (byte_of_word x (s.memory a.word.0)) reads (race_free n met.before) small (ap (λ m. has_byte m x) mask ∙ has)
      (memory_at_end image t (steps log n) s met.runs a.word.0 x small)) in
      value.1 ∙ ap Some (shown ∙ sym bytes)

  -- so does the hart's own store
  reads_own : (n : ℕ) (s : FlatState) (a : Access) (number : ℕ) → IsMet n s → IsShownOwn log n a number → a.read ≡ Some (bytes_under a.mask (s.memory a.word.0))
  reads_own n s a number met own =
      let bytes : bytes_under a.mask (s.memory a.word.0) ≡ bytes_under a.mask own.value =
      same_under a.mask (s.memory a.word.0) own.value (λ x small has.
      own_agrees image t log f n a number x (byte_of_word x (s.memory a.word.0)) own (race_free n met.before) small has (memory_at_end image t (steps log n) s met.runs a.word.0 x small)) in
      own.read ∙ ap Some (sym bytes)

  pub load_step : (n : ℕ) (s : FlatState) (a : Access) (level : ℕ) → IsMet n s → IsEventAt log n (kind.Load a level) → Accesses image t s.harts (f.harts (suc n)) a → IsLoad a level → IsRunTo (suc n)
  load_step n s a level met at e load = by_access n s (kind.Load a level) a met at refl e (can_load s a.hart.0 _ e.need e.content e.succeeds (unseen a) e.is_offered (load_kind a level load) (by_shown load))
    where
      read : IsRead a
      read = is_read a level load (shape_of image t log f s.harts (f.harts (suc n)) a e)

      by_version : IsShownVersion a level → a.read ≡ Some (bytes_under a.mask (s.memory a.word.0))
      by_version v =
          let c = can_do_other s a.hart.0 _ e.need e.content e.succeeds (unseen a) e.is_offered read.of_memory in
          let o = other n s a met e c in
          reads_line n s a c.access v.version met
          (record { shown = record { event = record { kind = kind.Load a level; at = at; is = refl }; seen = v.is }; race_free = o.race_free; hart = c.same_hart; word = c.same_word }) c.same_mask read.reads

      by_store : IsShownStore a level → a.read ≡ Some (bytes_under a.mask (s.memory a.word.0))
      by_store k = reads_own n s a k.number met (f.coherent.own_is_newest n a level k.number at k.is)

      by_shown : IsLoad a level → a.read ≡ Some (bytes_under a.mask (s.memory a.word.0))
      by_shown (inl (is, inl v)) = by_version v
      by_shown (inl (is, inr k)) = by_store k
      by_shown (inr (is, v)) = by_version v

  pub rmw_step : (n : ℕ) (s : FlatState) (a : Access) (line : LineId) (version : ℕ) → IsMet n s → IsEventAt log n (kind.Rmw a line version)
      → Accesses image t s.harts (f.harts (suc n)) a → IsRmw a → IsRunTo (suc n)
  rmw_step n s a line version met at e is = by_access n s (kind.Rmw a line version) a met at refl e (by_kind is)
    where
      c : CanDoOther s a.hart.0 ((s.harts a.hart.0).retired + 1) e.need (unseen a)
      c = can_do_other s a.hart.0 _ e.need e.content e.succeeds (unseen a) e.is_offered (rmw_of_memory a is)

      o : IsOther n s a c.access
      o = other n s a met e c

      shape : HasShape a.op (unseen a)
      shape = shape_of image t log f s.harts (f.harts (suc n)) a e

      by_kind : IsRmw a → CanDo s a.hart.0 ((s.harts a.hart.0).retired + 1) e.need (unseen a)
      by_kind (inl amo) =
          let m = rmw_shown image t log f n a line version at in
          let some : IsSome a.read = (subst (λ p. HasShape p (unseen a)) amo shape).0 in
          can_amo s a.hart.0 _ e.need e.content e.succeeds (unseen a) e.is_offered amo
          (reads_line n s a c.access m.0 met (record { shown = m.1; race_free = o.race_free; hart = c.same_hart; word = c.same_word }) c.same_mask some)
      by_kind (inr cond) =
          let all = (subst (λ p. HasShape p (unseen a)) cond.0 shape).1 in
          let has = has_reserved image t log f n a c.access (record { race_free = o.race_free; same_hart = c.same_hart; same_word = c.same_word; all = c.same_mask ∙ all })
          (f.conds_are_reserved n a line version at cond.0) (c.same_op ∙ cond.0) s (flat_state_after s (step.Access c.access) o.next) met.runs o.does in
          can_succeed s a.hart.0 _ e.need e.content e.succeeds (unseen a) e.is_offered cond.0 cond.1 has

  lock_reads : (n : ℕ) (s : FlatState) (a : Access) → IsMet n s → IsLockEvent log n a → a.read ≡ Some (s.locks a.word.0)
  lock_reads n s a met event = lock_agrees image t log f n a (Some (s.locks a.word.0)) event (locks_at_end image t (steps log n) s met.runs a.word.0)

  pub grant_step : (n : ℕ) (s : FlatState) (a : Access) → IsMet n s → IsEventAt log n (kind.Grant a) → Accesses image t s.harts (f.harts (suc n)) a → a.op ≡ op.Ask → IsRunTo (suc n)
  grant_step n s a met at e ask =
      let reads : a.read ≡ Some (s.locks a.word.0) = lock_reads n s a met (record { kind = kind.Grant a; at = at; is = refl }) in
      let zero_read : a.read ≡ Some 0 = f.coherent.grants_read_zero n a at in
      let free : s.locks a.word.0 ≡ 0 = cc in
      by_access n s (kind.Grant a) a met at refl e (can_ask s a.hart.0 _ e.need e.content e.succeeds (unseen a) e.is_offered ask free)

  pub free_step : (n : ℕ) (s : FlatState) (from : ClusterId) (a : Access) → IsMet n s → IsEventAt log n (kind.Free from a) → Accesses image t s.harts (f.harts (suc n)) a → a.op ≡ op.Unlock → IsRunTo (suc n)
  free_step n s from a met at e unlock =
      by_access n s (kind.Free from a) a met at refl e
      (can_unlock s a.hart.0 _ e.need e.content e.succeeds (unseen a) e.is_offered unlock (lock_reads n s a met (record { kind = kind.Free from a; at = at; is = refl })))
