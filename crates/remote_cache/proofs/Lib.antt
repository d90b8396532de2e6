mod Using
pub mod OnePerLine
pub mod Changed
pub mod Lawful
pub mod LawsOffered
