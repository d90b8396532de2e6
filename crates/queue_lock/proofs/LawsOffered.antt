-- The lemmas that the crates above use. Nothing else of these proofs is imported across crates.
pub use Rattle.queue_lock.proofs.Totals.{total_same, total_none, total_part, total_change}
pub use Rattle.queue_lock.proofs.Counted.{lock_at-with_lock, at_here, at_others, is_own-with_lock, own_below, ready_some, queue_within, waiting-with_lock, waiting-ask, waiting-grant, waiting-free, first_in_front}
