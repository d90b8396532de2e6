-- The lemmas that the crates above use. Nothing else of these proofs is imported across crates.
pub use Rattle.cluster_unit.proofs.FreshUnits.{taken_some, taken_at, taken_more, each_more}
pub use Rattle.cluster_unit.proofs.Lighter.{parcels_more, went_same, came_same}
