-- The run of a generated workload, and its summary.
use Rattle.std.specs.Prelude.{◌≡◌, ℕ, List}
use Rattle.dash_base.specs.declared.topology.Topology.{Topology}
use Rattle.round_run.specs.declared.finished.Cause.TheVariants.{Exited}
use Rattle.workload_gen.specs.Workload.{IsMachine}
use Rattle.workload_runs.specs.Runs.{workload, whole_summary}
use Rattle.dash_run.specs.Ran.{Ran, IsRunOf}

-- a run of a seed's workload on its machine ended, every hart having exited, with this summary: that of the workload's totals
pub record IsGenerated (seed : ℕ) (text : List ℕ) (ran : Ran) : Type 0 where
  pub topology : Topology
  pub is_machine : IsMachine topology
  pub run : IsRunOf (workload seed topology) ran Exited
  pub is_summary : text ≡ whole_summary seed
