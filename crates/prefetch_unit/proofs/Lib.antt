pub mod ByLines
pub mod LawsOffered
