-- The lemmas that the crates above use. Nothing else of these proofs is imported across crates.
pub use Rattle.dash_model.proofs.Local.{local_runs_grow}
pub use Rattle.dash_model.proofs.LocalHarts.{local_runs_keep_harts}
pub use Rattle.dash_model.proofs.LocalWeights.{local_weights_fall}
pub use Rattle.dash_model.proofs.LocalQueues.{local_runs_queue_at_home}
pub use Rattle.dash_model.proofs.Changes.{stamps_rise}
pub use Rattle.dash_model.proofs.Merge.{merge_is_run}
pub use Rattle.dash_model.proofs.RunsAdmissible.{runs_are_admissible}
pub use Rattle.dash_model.proofs.RunEnds.{drained_harts_have_committed, locks_have_last_uses, settled_runs_are_replayed, waiters_ask}
pub use Rattle.dash_model.proofs.Effects.{row_same}
pub use Rattle.dash_model.proofs.Lanes.{lane-append}
pub use Rattle.dash_model.proofs.Totals.{total_same, total_le, total_add, total_swap, total_none, total_change, last_or_below}
