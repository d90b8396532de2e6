-- The lemmas that the crates above use. Nothing else of these proofs is imported across crates.
pub use Rattle.workload_gen.proofs.Labelled.{workloads_are_properly_labelled}
pub use Rattle.workload_gen.proofs.Runs.{counters_come_to_totals, harts_are_done, last_stores_write_totals}
