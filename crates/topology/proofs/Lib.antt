pub mod LeastName
pub mod Refused
pub mod NoSizes
