pub mod Sets
pub mod Lines
pub mod Places
pub mod LineSets
pub mod Parts
pub mod LawsOffered
