pub mod LineMaps
pub mod Finds
pub mod Harts
pub mod Maps
pub mod Held
pub mod Lines
pub mod Counts
pub mod LawsOffered
