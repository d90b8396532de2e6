-- The lemmas that the crates above use. Nothing else of these proofs is imported across crates.
pub use Rattle.flat_model.proofs.DrivenRuns.{driven_run, one_eager_step}
pub use Rattle.flat_model.proofs.Exclusion.{locks_exclude}
pub use Rattle.flat_model.proofs.InRuns.{numbers_rise, one_hart}
pub use Rattle.flat_model.proofs.Offers.{is_offered, number_is}
pub use Rattle.flat_model.proofs.Ordered.{across, goes_forward}
pub use Rattle.flat_model.proofs.Reservations.{cond_finds, cond_may_succeed}
pub use Rattle.flat_model.proofs.Retired.{access_retires, retires_no_less}
pub use Rattle.flat_model.proofs.Seen.{locks_at_end, memory_at_end}
pub use Rattle.flat_model.proofs.Steps.{no_step_of, one_more_step}
pub use Rattle.flat_model.proofs.Writes.{WritesOrKeeps, byte_after, same_access}
