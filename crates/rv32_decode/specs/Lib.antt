pub mod Layout
pub mod Decoding
pub mod Hints
