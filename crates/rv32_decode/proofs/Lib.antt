mod SameFields
pub mod Unique
pub mod LawsOffered
