-- The lemmas that the crates above use. Nothing else of these proofs is imported across crates.
pub use Rattle.ack_counter.proofs.Lines.{entry_at-empty_table, entry_at-with_entry, entry_at-without_entry, entry_at-set_entry, entry_at-changed, count-empty_table, count-with_entry, capacity-with_entry, capacity-without_entry, capacity-changed}
pub use Rattle.ack_counter.proofs.Counts.{count-without_entry, count-changed, count-below, owes-fresh, owes-also_owed, entries_are_counted, owed_is_by_line}
