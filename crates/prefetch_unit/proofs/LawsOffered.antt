-- The lemmas that the crates above use. Nothing else of these proofs is imported across crates.
pub use Rattle.prefetch_unit.proofs.ByLines.{empty_has_none, none_is_empty, IsLeastWithoutLine, least_by_lines, least_from_lines}
