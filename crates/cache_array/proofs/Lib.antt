pub mod LineMaps
pub mod Lines
pub mod Maps
pub mod Direct
pub mod Held
pub mod Changed
pub mod LawsOffered
