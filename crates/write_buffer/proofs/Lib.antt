pub mod Newest
pub mod Covers
pub mod LawsOffered
