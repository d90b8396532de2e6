-- What every complete run of the workload leaves.
use Rattle.std.proofs.Common.{List, ap, false, length, nat_lt, refl, subst, sym, true, ℕ, ◌&&◌, ◌*◌, ◌<◌, ◌∙◌, ◌≡◌}
use Rattle.dash_base.specs.Words.{byte_of_word}
use Rattle.dash_base.specs.declared.end.End.{End}
use Rattle.dash_base.specs.declared.end.End.TheVariants.{Exited, Running}
use Rattle.dash_base.specs.declared.topology.Topology.{Topology}
use Rattle.dash_event.specs.Records.{records_of}
use Rattle.dash_event.specs.declared.event.Event.{Event}
use Rattle.dash_model.proofs.LawsOffered.{runs_are_admissible, waiters_ask}
use Rattle.dash_model.specs.Complete.{AfterAll, AfterBudget, AfterTrap, AfterWait, DidTrap, IsSpent, IsStatus, IsWaiting, SomeHart, hart_at}
use Rattle.dash_model.specs.Config.{Config, all_harts}
use Rattle.dash_model.specs.Machine.{Machine}
use Rattle.hart_core.specs.HartState.{HartState, can_go_on, is_running}
use Rattle.trace_merge.proofs.LawsOffered.{complete_runs_are_complete}
use Rattle.trace_merge.specs.RunEnds.{EndsAs}
use Rattle.workload_gen.proofs.LawsOffered.{harts_are_done, counters_come_to_totals, last_stores_write_totals, workloads_are_properly_labelled}
use Rattle.workload_gen.specs.LastStores.{last_of}
use Rattle.workload_gen.specs.RunLaws.{IsDone}
use Rattle.workload_gen.specs.Summary.{listed, summary_text, totals}
use Rattle.workload_gen.specs.Workload.{counter_word, total}
use Rattle.workload_runs.specs.Counters.{counters_in, last_stored}
use Rattle.workload_runs.specs.Runs.{AreRetired, ContentsAreLastStored, HartsAreDoneInRuns, IsTotal, IsWorkloadRun, StatusesAreZero, SummariesAreOfTheTotals, added_up, counter_at, run_summary, whole_summary, workload}
use Rattle.workload_runs.proofs.Lists.{listed_at, listed_count, listed_is}
use Rattle.workload_runs.proofs.Stored.{stores_are_recorded}

module _ (seed : ℕ) (t : Topology) (log : List Event) (m : Machine) (run : IsWorkloadRun seed t log m) where
  abbrev w : Config
  w = workload seed t

  ends : EndsAs w log m
  ends = complete_runs_are_complete w log m (workloads_are_properly_labelled seed t run.is_seed run.machine) run.reaches run.complete

  done : (h : ℕ) → h < 64 → IsDone (hart_at w h m).core
  done h low = subst IsDone (ends.harts h) (harts_are_done seed t (records_of log) ends.state run.is_seed run.machine ends.complete h low)

  in_range : (h : ℕ) → h < all_harts w → h < 64
  in_range h low = subst (λ n. h < n) (let c = run.machine.clusters_is in let k = run.machine.harts_is in (λ j. c j * k j)) low

  trapped : (e : End) → e ≡ Exited 0 → DidTrap e → ⊥
  trapped e is trap = subst DidTrap is trap

  no_trap : SomeHart w (λ h. DidTrap (hart_at w h m).core.end) → ⊥
  no_trap some = trapped (hart_at w some.hart m).core.end (done some.hart (in_range some.hart some.inside)).end some.holds

  runs : (e : End) → e ≡ Exited 0 → e ≡ Running → ⊥
  runs e is running = let no : Exited 0 ≡ Running = sym is ∙ running in cc

  no_spent : SomeHart w (λ h. IsSpent w h m) → ⊥
  no_spent some = runs (hart_at w some.hart m).core.end (done some.hart (in_range some.hart some.inside)).end some.holds.running

  is_stored : (k : ℕ) → k < 64 → last_stored (counter_word k) log ≡ total seed k
  is_stored k low =
      let admissible = runs_are_admissible w log run.reaches.run in
      ap last_of (sym (stores_are_recorded w.image t (counter_word k) log admissible.harts admissible.replay))
      ∙ last_stores_write_totals seed t (records_of log) ends.state run.is_seed run.machine ends.complete k low

  totals_are : (k : ℕ) → k < 64 → IsTotal seed t log k
  totals_are k low = record {
    stored = is_stored k low;
    content = λ x small. sym (ends.contents (counter_at k) x small) ∙ ap (byte_of_word x) (counters_come_to_totals seed t (records_of log) ends.state run.is_seed run.machine ends.complete k low);
  }

  rests : (x : HartState) → x.end ≡ Exited 0 → can_go_on t x ≡ true → ⊥
  rests x is goes = let no : can_go_on t x ≡ false = (λ j. is_running (is j) && nat_lt x.retired t.budget) in absurd (cc)

  no_waits : SomeHart w (λ h. IsWaiting w h m) → ⊥
  no_waits some =
      let waits = some.holds in
      let asks = waiters_ask w log m some.hart waits.word run.reaches waits.inside waits.queued in
      rests (hart_at w some.hart m).core (done some.hart (in_range some.hart some.inside)).end asks.needs.goes

  status_is : (status : ℕ) → IsStatus w m status → status ≡ 0
  status_is _ (AfterTrap some) = absurd (no_trap some)
  status_is _ (AfterBudget none some) = absurd (no_spent some)
  status_is _ (AfterWait none few some) = absurd (no_waits some)
  status_is _ (AfterAll a b c) = refl

  values_are : counters_in log ≡ totals seed
  unfolding counters_in totals
  values_are = listed_is (total seed) (counters_in log) 64 (listed_count (λ k. last_stored (counter_word k) log) 64) (λ k low. listed_at (λ i. last_stored (counter_word i) log) 64 k low ∙ is_stored k low)

  retired_are : (retired : List ℕ) → AreRetired w m retired → retired ≡ listed (λ h. 7507) 64
  retired_are retired are = listed_is (λ h. 7507) retired 64 are.count (λ h low. are.each h low ∙ (done h low).retired)

  summary_is : (retired : List ℕ) → AreRetired w m retired → run_summary seed retired log ≡ whole_summary seed
  summary_is retired are = (λ j. summary_text seed (length (retired_are retired are j)) (added_up (retired_are retired are j)) (values_are j))

pub harts_are_done_in_runs : HartsAreDoneInRuns
harts_are_done_in_runs seed t log m run h low = done seed t log m run h low

pub statuses_are_zero : StatusesAreZero
statuses_are_zero seed t log m status run is = status_is seed t log m run status is

pub contents_are_last_stored : ContentsAreLastStored
contents_are_last_stored seed t log m run k low = totals_are seed t log m run k low

pub summaries_are_of_the_totals : SummariesAreOfTheTotals
summaries_are_of_the_totals seed t log m retired run are = summary_is seed t log m run retired are
