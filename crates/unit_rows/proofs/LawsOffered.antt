-- The lemmas that the crates above use. Nothing else of these proofs is imported across crates.
pub use Rattle.unit_rows.proofs.Locals.{local_more}
pub use Rattle.unit_rows.proofs.Openings.{opening_shows, opening_sized}
pub use Rattle.unit_rows.proofs.Sized.{SameSizes, same_sizes, sized_line, sized_bus}
pub use Rattle.unit_rows.proofs.LineNeeds.{next_needs}
pub use Rattle.unit_rows.proofs.Retiring.{one_local, front_of}
pub use Rattle.unit_rows.proofs.AcksOn.{begun_in_range}
pub use Rattle.unit_rows.proofs.CanLines.{can_commit, can_read, can_own, can_evict, can_install, can_ask, can_again, can_grant}
pub use Rattle.unit_rows.proofs.CanSteps.{can_alu, can_put, can_stop, can_fence, can_hint, can_load, can_store, can_atomic, can_lock, can_unlock}
pub use Rattle.unit_rows.proofs.OutOfRange.{far_step, far_commit, far_read, far_own, far_evict, past_ask, past_again, past_install}
pub use Rattle.unit_rows.proofs.OpeningStores.{opening_stores}
pub use Rattle.unit_rows.proofs.Ready.{askers_go_on, stores_are_of_memory}
pub use Rattle.unit_rows.proofs.RoomOn.{held_is}
pub use Rattle.unit_rows.proofs.AgainRow.{not_refused}
pub use Rattle.unit_rows.proofs.InstallFits.{not_come}
pub use Rattle.unit_rows.proofs.LockWords.{own_of}
pub use Rattle.unit_rows.proofs.Resting.{rest_cannot, needs_now}
pub use Rattle.unit_rows.proofs.Left.{left_is}
