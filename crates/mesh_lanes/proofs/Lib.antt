pub mod Spool
pub mod Known
pub mod LawsOffered
