pub mod Planned
pub mod LawsOffered
