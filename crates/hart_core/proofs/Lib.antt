pub mod Shifts
pub mod Unique
pub mod Needed
pub mod Fronts
pub mod LawsOffered
