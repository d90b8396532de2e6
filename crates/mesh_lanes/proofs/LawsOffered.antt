-- The lemmas that the crates above use. Nothing else of these proofs is imported across crates.
pub use Rattle.mesh_lanes.proofs.Known.{next_is_first, rest_is_known, peeked_is_next, taken_from, prefix_then}
pub use Rattle.mesh_lanes.proofs.Spool.{counts}
