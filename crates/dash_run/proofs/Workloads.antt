-- The run of a generated workload, from what is said of runs and of the workload.
use Rattle.std.proofs.Common.{◌≡◌, ℕ, ◌+◌, ◌*◌, ◌^◌, ◌<◌, ◌⊎◌, inl, inr, Bool, List, [], ◌∷◌, ◌++◌, length, map, refl, sym, ◌∙◌, ap, subst, arith}
use Rattle.std.specs.Prelude.{slice_index}
use Rattle.std.proofs.lemmas.List.{get_or_append_left, get_or_push}
use Rattle.dash_base.specs.Places.{hart_count}
use Rattle.dash_base.specs.declared.topology.Topology.{Topology}
use Rattle.dash_event.specs.declared.event.Event.{Event}
use Rattle.dash_model.specs.Machine.{Machine}
use Rattle.round_run.specs.Finished.{IsFinished, status_of}
use Rattle.round_run.specs.Units.{UnitView}
use Rattle.round_run.specs.declared.finished.Cause.{Cause}
use Rattle.round_run.specs.declared.finished.Cause.TheVariants.{Exited, Budget, Trapped, Deadlock}
use Rattle.workload_gen.specs.Workload.{IsMachine}
use Rattle.workload_runs.specs.Runs.{AreRetired, IsWorkloadRun, StatusesAreZero, whole_summary, workload}
use Rattle.dash_run.specs.Generated.{IsGenerated}
use Rattle.dash_run.specs.Ran.{itself}
use Rattle.dash_run.specs.Report.{hart_of}
use Rattle.dash_run.proofs.Units.{finished_seen}

-- ---- what harts retired

by_place : (old : List ℕ) (v n h : ℕ) (f : ℕ → ℕ) → length old ≡ n → v ≡ f n → ((k : ℕ) → k < n → slice_index old k ≡ f k) → (h < n) ⊎ (h ≡ n) → slice_index (old ++ v ∷ []) h ≡ f h
by_place old v n h f count is each (inl below) = get_or_append_left old (v ∷ []) 0 h (subst (λ l. h < l) (sym count) below) ∙ each h below
by_place old v n h f count is each (inr last) = get_or_push old v 0 h (count ∙ sym last) ∙ is ∙ ap f (sym last)

below_or_last : (h n : ℕ) → h < n + 1 → (h < n) ⊎ (h ≡ n)
below_or_last h n low = grind arith

-- one more hart is told
pub told_more : (old new : List ℕ) (v n : ℕ) (f : ℕ → ℕ) → length old ≡ n → new ≡ old ++ v ∷ [] → v ≡ f n → ((k : ℕ) → k < n → slice_index old k ≡ f k)
    → (h : ℕ) → h < n + 1 → slice_index new h ≡ f h
told_more old new v n f count grew is each h low = ap (λ xs. slice_index xs h) grew ∙ by_place old v n h f count is each (below_or_last h n low)

-- all harts of the workload's machine are told
pub are_retired : (seed : ℕ) (t : Topology) (m : Machine) (retired : List ℕ) → IsMachine t → length retired ≡ hart_count t
    → ((h : ℕ) → h < hart_count t → slice_index retired h ≡ (hart_of (workload seed t) m h).retired) → AreRetired (workload seed t) m retired
are_retired seed t m retired is count each =
    let all : hart_count t ≡ 64 = (let c = is.clusters_is in let k = is.harts_is in (λ j. c j * k j)) in
    record { count = count ∙ all; each = λ h low. each h (subst (λ n. h < n) (sym all) low) }

-- ---- the run

exited : (cause : Cause) → status_of cause ≡ 0 → cause ≡ Exited
exited Exited zero = refl
exited Budget zero = absurd cc
exited Trapped zero = absurd cc
exited Deadlock zero = absurd cc

module _ {U : Type 0} (view : U → UnitView) (seed : ℕ) (t : Topology) (log : List Event) (us : List U) (rounds : ℕ) (waits : List Bool) (cause : Cause)
    (small : seed < 2 ^ 32) (is : IsMachine t) (f : IsFinished view (workload seed t) log us rounds waits cause) where
  pub workload_run : IsWorkloadRun seed t log f.end
  workload_run = record { is_seed = small; machine = is; reaches = f.reaches; complete = f.complete }

  pub generated : (text : List ℕ) → StatusesAreZero → text ≡ whole_summary seed → IsGenerated seed text (record { log = log; units = map view us; rounds = rounds })
  generated text zero same = record {
    topology = t;
    is_machine = is;
    run = record {
      waits = waits;
      finished = subst (λ (x : Cause). IsFinished itself (workload seed t) log (map view us) rounds waits x)
          (exited cause (zero seed t log f.end (status_of cause) workload_run f.status))
          (finished_seen view (workload seed t) log us rounds waits cause f);
    };
    is_summary = same;
  }
