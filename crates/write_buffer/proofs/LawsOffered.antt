-- The lemmas that the crates above use. Nothing else of these proofs is imported across crates.
pub use Rattle.write_buffer.proofs.Covers.{covers-has_byte}
pub use Rattle.write_buffer.proofs.Newest.{newest_of-nil, newest_of-push, newest_of-cons, is_some-newest_of}
