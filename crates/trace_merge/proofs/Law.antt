-- The records of an admissible log of a properly labelled image are a sequential run: by induction on its prefixes.
use Rattle.std.proofs.Common.{◌≡◌, ◌⊎◌, inl, inr, ◌<◌, ◌≤◌, ℕ, zero, suc, false, List, length, refl, sym, subst, arith}
use Rattle.dash_base.specs.declared.topology.Topology.{Topology}
use Rattle.elf_load.specs.Image.{ImageView}
use Rattle.dash_event.specs.Records.{unseen, records_in, records_of}
use Rattle.dash_event.specs.declared.event.Event.{Event}
use Rattle.dash_event.specs.declared.event.Kind.{Kind}
use Rattle.dash_event.specs.declared.event.Kind.TheVariants as kind
use Rattle.dash_event.specs.declared.step_record.StepRecord.TheVariants as step
use Rattle.dash_base.specs.declared.need.Need.TheVariants as needed
use Rattle.flat_model.specs.State.{FlatState, opening_state}
use Rattle.flat_model.specs.Step.{flat_state_after}
use Rattle.flat_model.specs.Run.{RunsTo, IsSequentialRun}
use Rattle.flat_model.specs.Race.{IsProperlyLabelled}
use Rattle.dash_model.specs.Log.{IsEventAt}
use Rattle.dash_model.specs.Replay.{Replays}
use Rattle.dash_model.specs.Admissible.{IsAdmissible}
use Rattle.trace_merge.proofs.Places.{upto_all}
use Rattle.trace_merge.proofs.Facts.{some_event, replays}
use Rattle.trace_merge.proofs.Needs.{can_store, can_fail}
use Rattle.trace_merge.proofs.Writers.{AreRaceFree}
use Rattle.trace_merge.proofs.Events.{moved, race_free, IsRunTo, AreRunsTo, IsMet, with_record, without_record, by_access, load_step, rmw_step, grant_step, free_step}

module _ (image : ImageView) (t : Topology) (log : List Event) (f : IsAdmissible image t log) (labelled : IsProperlyLabelled image t) where
  still : (s : FlatState) (n : ℕ) → ((g : ℕ) → f.harts (suc n) g ≡ s.harts g) → s.harts ≡ f.harts (suc n)
  still s n stays = λ i g. sym (stays g) i

  -- each kind of event
  step_on : (n : ℕ) (s : FlatState) (k : Kind) → IsMet image t log f labelled n s → IsEventAt log n k → Replays image t s.harts k (f.harts (suc n)) → IsRunTo image t log f labelled (suc n)
  step_on n s (kind.Alu h pc) met at e =
      let m = e.moves in
      with_record image t log f labelled n (kind.Alu h pc) (step.Plain h) s (flat_state_after s (step.Plain h) (f.harts (suc n) h.0)) at refl met.runs
      (record { in_range = m.in_range; need = needed.Alu; succeeds = false; possible = tt; recorded = refl; next = f.harts (suc n) h.0; does = m.does; after = refl }) (moved s.harts (f.harts (suc n)) h m.others)
  step_on n s (kind.Fence h pc) met at e =
      let m = e.next.moves in
      with_record image t log f labelled n (kind.Fence h pc) (step.Plain h) s (flat_state_after s (step.Plain h) (f.harts (suc n) h.0)) at refl met.runs
      (record { in_range = m.in_range; need = needed.Fence e.waits; succeeds = false; possible = tt; recorded = refl; next = f.harts (suc n) h.0; does = m.does; after = refl }) (moved s.harts (f.harts (suc n)) h m.others)
  step_on n s (kind.Hint h pc slot) met at e =
      let m = e.next.moves in
      with_record image t log f labelled n (kind.Hint h pc slot) (step.Plain h) s (flat_state_after s (step.Plain h) (f.harts (suc n) h.0)) at refl met.runs
      (record { in_range = m.in_range; need = needed.Hint e.hint e.address; succeeds = false; possible = tt; recorded = refl; next = f.harts (suc n) h.0; does = m.does; after = refl }) (moved s.harts (f.harts (suc n)) h m.others)
  step_on n s (kind.Put h pc b) met at e =
      let m = e.moves in
      with_record image t log f labelled n (kind.Put h pc b) (step.Byte h b) s (flat_state_after s (step.Byte h b) (f.harts (suc n) h.0)) at refl met.runs
      (record { in_range = m.in_range; need = needed.Put b; succeeds = false; possible = tt; recorded = refl; next = f.harts (suc n) h.0; does = m.does; after = refl }) (moved s.harts (f.harts (suc n)) h m.others)
  step_on n s (kind.Stop h pc q) met at e =
      let m = e.moves in
      with_record image t log f labelled n (kind.Stop h pc q) (step.Stopped h q) s (flat_state_after s (step.Stopped h q) (f.harts (suc n) h.0)) at refl met.runs
      (record { in_range = m.in_range; need = needed.Stop q; succeeds = false; possible = tt; recorded = refl; next = f.harts (suc n) h.0; does = m.does; after = refl }) (moved s.harts (f.harts (suc n)) h m.others)
  step_on n s (kind.Load a level) met at e = load_step image t log f labelled n s a level met at e.0 e.1
  step_on n s (kind.Store a) met at e =
      by_access image t log f labelled n s (kind.Store a) a met at refl e.0 (can_store s a.hart.0 _ e.0.need e.0.content e.0.succeeds (unseen a) e.0.is_offered e.1)
  step_on n s (kind.Rmw a line version) met at e = rmw_step image t log f labelled n s a line version met at e.0 e.1
  step_on n s (kind.ScFail a) met at e =
      by_access image t log f labelled n s (kind.ScFail a) a met at refl e.0 (can_fail s a.hart.0 _ e.0.need e.0.content e.0.succeeds (unseen a) e.0.is_offered e.1 e.2)
  step_on n s (kind.Grant a) met at e = grant_step image t log f labelled n s a met at e.0 e.1
  step_on n s (kind.Free from a) met at e = free_step image t log f labelled n s from a met at e.0 e.1
  step_on n s k met at e = without_record image t log f labelled n k s at refl met.runs (still s n e.stays)

  next_run : (n : ℕ) → n < length log → AreRunsTo image t log f labelled n → IsRunTo image t log f labelled (suc n)
  next_run n below before =
      let r = before n (omega arith) in
      let e = some_event log n below in
      step_on n r.state e.0 (record { before = before; runs = r.runs }) e.1 (subst (λ hs. Replays image t hs e.0 (f.harts (suc n))) (sym r.harts) (replays image t log f n e.0 e.1))

  up_to : (n : ℕ) → n ≤ length log → AreRunsTo image t log f labelled n
  up_to zero within m le =
      let first : m ≡ 0 = omega arith in
      subst (IsRunTo image t log f labelled) (sym first) (record { state = opening_state image t; runs = refl; harts = λ i h. sym (f.replay.opens h) i })
  up_to (suc n) within m le = by_order (grind arith) (up_to n (omega arith))
    where
      by_order : (m ≤ n) ⊎ (m ≡ suc n) → AreRunsTo image t log f labelled n → IsRunTo image t log f labelled m
      by_order (inl shorter) before = before m shorter
      by_order (inr same) before = subst (IsRunTo image t log f labelled) (sym same) (next_run n (omega arith) before)

  pub all_race_free : AreRaceFree image t log f (length log)
  all_race_free = race_free image t log f labelled (length log) (up_to (length log) (omega arith))

  pub run_to_end : IsRunTo image t log f labelled (length log)
  run_to_end = up_to (length log) (omega arith) (length log) (omega arith)

  pub is_sequential : IsSequentialRun image t (records_of log)
  is_sequential =
      let r = run_to_end in
      record { final = r.state; runs = subst (λ rs. RunsTo image t rs r.state) (upto_all records_in log) r.runs }
