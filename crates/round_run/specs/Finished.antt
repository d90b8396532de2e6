-- What a run leaves: its log, which is a complete run of the machine, and the units that made it.
use Rattle.std.specs.Prelude.{◌≡◌, ◌↔◌, ℕ, ◌*◌, ◌^◌, ◌<◌, Bool, true, false, List, length, map, slice_index_or}
use Rattle.dash_event.specs.declared.event.Event.{Event}
use Rattle.dash_model.specs.Config.{Config, all_harts}
use Rattle.dash_model.specs.Machine.{Machine, Reaches}
use Rattle.dash_model.specs.Complete.{IsComplete, IsWaiting, IsStatus}
use Rattle.dash_model.specs.LocalRun.{IsMergeOf}
use Rattle.trace_merge.specs.MergedLogs.{log_of}
use Rattle.cluster_unit.specs.Core.{IsAt}
use Rattle.cluster_unit.specs.Wiring.{AreOf}
use Rattle.round_run.specs.Units.{UnitView}
use Rattle.round_run.specs.declared.finished.Cause.{Cause}
use Rattle.round_run.specs.declared.finished.Cause.TheVariants.{Exited, Budget, Trapped, Deadlock}

-- the exit status that a cause stands for
abbrev pub status_of : Cause → ℕ
status_of Exited = 0
status_of Budget = 10
status_of Trapped = 11
status_of Deadlock = 12

module _ {U : Type 0} (view : U → UnitView) where
  -- the log of number c
  abbrev pub log_at : List U → ℕ → List Event
  log_at us c = log_of (map (λ u. (view u).core.log) us) c

  -- a run of machine w ended after so many rounds, for this cause, with this log; these harts wait, and these are its units
  pub record IsFinished (w : Config) (log : List Event) (us : List U) (rounds : ℕ) (waits : List Bool) (cause : Cause) : Type 0 where
    pub end : Machine
    pub reaches : Reaches w log end
    pub complete : IsComplete w end
    pub status : IsStatus w end (status_of cause)
    pub units : AreOf (λ u. (view u).core) w us
    pub merged : IsMergeOf w.top.clusters (log_at us) log
    pub parts : (c : ℕ) (d : U) → c < w.top.clusters → IsAt (view (slice_index_or us c d)).core (end.parts c)
    pub waits_count : length waits ≡ all_harts w
    pub waiting : (h : ℕ) → h < all_harts w → (slice_index_or waits h false ≡ true) ↔ IsWaiting w h end
    pub some_round : 0 < rounds
    pub turns : rounds < 2 ^ 56 → (c : ℕ) (d : U) → c < w.top.clusters → (view (slice_index_or us c d)).turns ≡ 256 * rounds
    pub ahead : rounds < 2 ^ 56 → (c : ℕ) (d : U) → c < w.top.clusters → (view (slice_index_or us c d)).ahead ≡ 0
