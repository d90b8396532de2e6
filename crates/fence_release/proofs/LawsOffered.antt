-- The lemmas that the crates above use. Nothing else of these proofs is imported across crates.
pub use Rattle.fence_release.proofs.Told.{Drained, drained_tells, drained_holds, MayCommit, commit_tells, commit_holds}
