-- The lemmas that the crates above use. Nothing else of these proofs is imported across crates.
pub use Rattle.arbiter.proofs.Planned.{pick_is_planned, plan_does_not_retire, retired_picks_none}
