-- What a run leaves, where its units are over: their logs merge to a complete run.
use Rattle.std.proofs.Common.{◌≡◌, ◌⊎◌, ℕ, ◌*◌, ◌<◌, ◌≤◌, Bool, List, [], ◌∷◌, length, map, slice_index_or, inl, inr, refl, sym, ◌∙◌, ap, subst, arith}
use Rattle.std.proofs.lemmas.List.{length-map, get_or_default}
use Rattle.dash_base.specs.declared.topology.Topology.{Topology}
use Rattle.dash_event.specs.declared.event.Event.{Event}
use Rattle.dash_msg.specs.declared.classes.Class.{Class}
use Rattle.dash_msg.specs.Classes.{class_of}
use Rattle.dash_model.specs.Config.{Config}
use Rattle.dash_model.specs.Net.{lane}
use Rattle.dash_model.specs.Part.{Part, opening_part}
use Rattle.dash_model.specs.Machine.{Machine, Step, event_of, Reaches, opening, state_after}
use Rattle.dash_model.specs.LocalRun.{IsLocalRun, part_at, received_in, StampsFit, IsMergeOf, IsMergedRun}
use Rattle.dash_model.specs.LockFacts.{MessagesAreInRange, RunsKeepLocks, LockFacts}
use Rattle.trace_merge.specs.MergedLogs.{log_of, MergedLogsAreRuns}
use Rattle.cluster_unit.specs.View.{CoreView}
use Rattle.cluster_unit.specs.Core.{HasRun, IsAt}
use Rattle.cluster_unit.specs.Wiring.{AreOf}
use Rattle.round_run.specs.Units.{UnitView, IsMesh, AreEmptied, NoneGrants}
use Rattle.round_run.specs.Rounds.{AreCounted}
use Rattle.round_run.specs.Stamps.{EndsBelow, AreBelow}
use Rattle.round_run.specs.Ending.{AreOver, IsCause, TellsAsked}
use Rattle.round_run.specs.Finished.{IsFinished}
use Rattle.round_run.specs.declared.finished.Cause.{Cause}
use Rattle.round_run.proofs.LogEnds.{run_fits, HaveRun, logs_of, log_at, log_past}
use Rattle.round_run.proofs.LaneEnds.{RunsAs, MeetEmpty, below_or, meet_empty, none_on_way}
use Rattle.round_run.proofs.HartEnds.{moved, completes, status, waiting}

-- the first of some units
first_unit : {U : Type 0} (us : List U) → 0 < length us → U
first_unit [] some = absurd (omega arith)
first_unit (u ∷ us) some = u

-- the run of a core
runs_as : (w : Config) (c : ℕ) (a : CoreView) (has : HasRun a) → a.config ≡ w → a.cluster ≡ c
    → ((f b : ℕ) (k : Class) → a.config.top.clusters ≤ f → lane f b k (received_in a.cluster has.history) ≡ []) → RunsAs w c a has.history
runs_as w c a has e f sources =
    moved (λ v n. RunsAs v n a has.history) a w c e f (record { events = has.events; ran = has.ran; carry = has.carry; brought = has.brought; sources = sources })

-- the part that it leads to
is_at : (w : Config) (c : ℕ) (a : CoreView) (gs : List Step) (p : Part) → a.config ≡ w → a.cluster ≡ c → RunsAs w c a gs → p ≡ part_at w c (opening_part w) gs → IsAt a p
is_at w c a gs p e f =
    moved_at (λ run is. record { history = gs; events = run.events; ran = run.ran; part = is })
  where
    moved_at : (RunsAs a.config a.cluster a gs → p ≡ part_at a.config a.cluster (opening_part a.config) gs → IsAt a p) → RunsAs w c a gs → p ≡ part_at w c (opening_part w) gs → IsAt a p
    moved_at = moved (λ v n. RunsAs v n a gs → p ≡ part_at v n (opening_part v) gs → IsAt a p) a w c e f

module _ {U : Type 0} (view : U → UnitView) where
  -- what is known of units that are over, and of what is told of them
  pub record AtEnd (t : Topology) (us : List U) (rounds : ℕ) (waits : List Bool) (cause : Cause) : Type 0 where
    pub mesh : IsMesh view t us
    pub some : 0 < rounds
    pub emptied : AreEmptied view us
    pub granted : NoneGrants view us
    pub over : AreOver view t us
    pub below : AreBelow view us
    pub runs : HaveRun view us
    pub sources : (c : ℕ) (d : U) (low : c < length us) (f b : ℕ) (k : Class) → (view (slice_index_or us c d)).core.config.top.clusters ≤ f
        → lane f b k (received_in (view (slice_index_or us c d)).core.cluster (runs c d low).history) ≡ []
    pub is_cause : IsCause view t us cause
    pub tells : TellsAsked view t us waits
    pub counted : AreCounted view t rounds us

  module _ (w : Config) (us : List U) (d : U) (rounds : ℕ) (waits : List Bool) (cause : Cause) (end : AtEnd w.top us rounds waits cause) (of : AreOf (λ u. (view u).core) w us) where
    -- the core of a cluster
    abbrev core : ℕ → CoreView
    core c = (view (slice_index_or us c d)).core

    -- the logs of all
    abbrev logs : List (List Event)
    logs = logs_of view us

    -- a cluster of the machine has a unit
    inside : (c : ℕ) → c < w.top.clusters → c < length us
    inside c low = subst (λ n. c < n) (sym of.count) low

    -- and what is none has none
    outside : (c : ℕ) → w.top.clusters ≤ c → length us ≤ c
    outside c high = subst (λ n. n ≤ c) (sym of.count) high

    -- the run of each cluster
    abbrev run_by : (c : ℕ) → (c < length us) ⊎ (length us ≤ c) → List Step
    run_by c (inl low) = (end.runs c d low).history
    run_by c (inr high) = []

    abbrev run : ℕ → List Step
    run c = run_by c (below_or c (length us))

    -- each has a run
    has_by : (c : ℕ) (s : (c < length us) ⊎ (length us ≤ c)) → c < length us → RunsAs w c (core c) (run_by c s)
    has_by c (inl low) below = runs_as w c (core c) (end.runs c d low) (of.config c d low) (of.cluster c d low) (end.sources c d low)
    has_by c (inr high) below = absurd (omega arith)

    has : (c : ℕ) → c < length us → RunsAs w c (core c) (run c)
    has c low = has_by c (below_or c (length us)) low

    -- what is no cluster has no steps
    past_by : (c : ℕ) (s : (c < length us) ⊎ (length us ≤ c)) → length us ≤ c → run_by c s ≡ []
    past_by c (inl low) above = absurd (omega arith)
    past_by c (inr high) above = refl

    past : (c : ℕ) → length us ≤ c → run c ≡ []
    past c high = past_by c (below_or c (length us)) high

    -- each run is a local one
    ran_by : (c : ℕ) → (c < length us) ⊎ (length us ≤ c) → IsLocalRun w c (opening_part w) (run c)
    ran_by c (inl low) = (has c low).ran
    ran_by c (inr high) = subst (IsLocalRun w c (opening_part w)) (sym (past c high)) tt

    -- its stamps stay below the greatest one
    fits_by : (c : ℕ) → (c < length us) ⊎ (length us ≤ c) → StampsFit (run c)
    fits_by c (inl low) = run_fits w c (opening_part w) (run c) (has c low).ran (subst EndsBelow (sym (has c low).events) (end.below c d low))
    fits_by c (inr high) = subst StampsFit (sym (past c high)) tt

    -- its events are the log
    logs_by : (c : ℕ) → (c < length us) ⊎ (length us ≤ c) → log_of logs c ≡ map event_of (run c)
    logs_by c (inl low) = log_at view us c d low ∙ sym (has c low).events
    logs_by c (inr high) = log_past view us c high ∙ sym (ap (map event_of) (past c high))

    -- the lanes meet
    lanes : MeetEmpty w run
    lanes = meet_empty w core run (λ c low. has c (inside c low)) (λ c high. past c (outside c high)) (λ a b low below k o n. end.emptied a b (inside a low) (inside b below) k d d o n)

    -- so the merge is a run
    merge_is : (log : List Event) → MergedLogsAreRuns → IsMergeOf (length us) (log_of logs) log → IsMergedRun w run lanes.meet.left log
    merge_is log merges merged =
        let count = length-map us (λ u. (view u).core.log) in
        (merges w run logs (count ∙ of.count) (λ c. logs_by c (below_or c (length us))) (λ c. ran_by c (below_or c (length us))) lanes.meet (λ c. fits_by c (below_or c (length us)))).run log
        (subst (λ n. IsMergeOf n (log_of logs) log) (sym count) merged)

    module _ (log : List Event) (run_is : IsMergedRun w run lanes.meet.left log) where
      -- where it ends
      abbrev last : Machine
      last = state_after w (opening w) run_is.run.steps

      -- it leads there
      reached : Reaches w log last
      reached = record { run = run_is.run; state = refl }

      -- nothing is on its way
      nothing_on_way : MessagesAreInRange → last.net ≡ []
      nothing_on_way in_range = none_on_way last.net
          (λ p on_way. run_is.lanes p.src p.dst (class_of p.msg) ∙ lanes.none p.src p.dst (class_of p.msg) (in_range w log last p reached on_way).0)

      -- each core's log leads to the cluster's part
      at : (c : ℕ) → c < length us → IsAt (core c) (last.parts c)
      at c low = is_at w c (core c) (run c) (last.parts c) (of.config c d low) (of.cluster c d low) (has c low) (run_is.parts c)

      at_each : (c : ℕ) (e : U) → c < length us → IsAt (view (slice_index_or us c e)).core (last.parts c)
      at_each c e low = subst (λ u. IsAt (view u).core (last.parts c)) (get_or_default us c d e low) (at c low)

      -- so it is finished
      finish_by : MessagesAreInRange → RunsKeepLocks → IsMergeOf (length us) (log_of logs) log → IsFinished view w log us rounds waits cause
      finish_by in_range locks merged =
          let none = nothing_on_way in_range in
          let facts : LockFacts w last = locks w log last reached in record {
            end = last;
            reaches = reached;
            complete = completes view w us d last of at end.over end.granted facts none;
            status = status view w us d last of at end.over end.granted facts none cause end.is_cause;
            units = of;
            merged = subst (λ n. IsMergeOf n (log_of logs) log) of.count merged;
            parts = λ c e low. at_each c e (inside c low);
            waits_count = end.tells.count ∙ ap (λ n. n * w.top.harts) of.count;
            waiting = waiting view w us d last of at end.over end.granted facts none waits end.tells;
            some_round = end.some;
            turns = λ few c e low. (end.counted few c e (inside c low)).turns;
            ahead = λ few c e low. (end.counted few c e (inside c low)).ahead;
          }

  -- so the run is finished
  pub finished : (w : Config) (t : Topology) (us : List U) (log : List Event) (rounds : ℕ) (waits : List Bool) (cause : Cause) → MergedLogsAreRuns → MessagesAreInRange → RunsKeepLocks
      → AtEnd t us rounds waits cause → IsMergeOf (length us) (log_of (logs_of view us)) log → AreOf (λ u. (view u).core) w us → IsFinished view w log us rounds waits cause
  finished w t us log rounds waits cause merges in_range locks end merged of =
      let some : 0 < length us = (let count = of.count in let one = w.top.clusters_in_range.low in omega arith) in
      let d = first_unit us some in
      let top : t ≡ w.top = sym (end.mesh.top 0 d some) ∙ ap (λ (v : Config). v.top) (of.config 0 d some) in
      let end_here = subst (λ v. AtEnd v us rounds waits cause) top end in
      finish_by w us d rounds waits cause end_here of log (merge_is w us d rounds waits cause end_here of log merges merged) in_range locks merged
