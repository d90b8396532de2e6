pub mod Told
pub mod LawsOffered
