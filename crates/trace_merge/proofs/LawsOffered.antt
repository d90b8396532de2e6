-- The lemmas that the crates above use. Nothing else of these proofs is imported across crates.
pub use Rattle.trace_merge.proofs.RunEnds.{complete_runs_are_complete}
