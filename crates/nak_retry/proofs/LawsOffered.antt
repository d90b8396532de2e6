-- The lemmas that the crates above use. Nothing else of these proofs is imported across crates.
pub use Rattle.nak_retry.proofs.Reissued.{reissued, slot_at-reissued, slot_at-reissued_other, slot_of-reissued, is_refused-asked_again}
