-- The lemmas that the crates above use. Nothing else of these proofs is imported across crates.
pub use Rattle.rv32_decode.proofs.Unique.{one_word}
