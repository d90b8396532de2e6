-- The lemmas that the crates above use. Nothing else of these proofs is imported across crates.
pub use Rattle.remote_cache.proofs.Changed.{KeepsLine, on_reply_keeps, on_inval_keeps}
pub use Rattle.remote_cache.proofs.Lawful.{lines_have_one_slot, set_slots_stand, messages_change_one_slot}
