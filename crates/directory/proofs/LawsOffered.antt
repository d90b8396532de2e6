-- The lemmas that the crates above use. Nothing else of these proofs is imported across crates.
pub use Rattle.directory.proofs.Lawful.{sharers_are_sets, serving_changes_one_line}
