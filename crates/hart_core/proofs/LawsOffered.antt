-- The lemmas that the crates above use. Nothing else of these proofs is imported across crates.
pub use Rattle.hart_core.proofs.Needed.{in_budget, proper, retires, store_has_byte, zero_stays}
pub use Rattle.hart_core.proofs.Unique.{any_answer, needs_of, one_after, one_found, one_need}
pub use Rattle.hart_core.proofs.Fronts.{front_rests}
