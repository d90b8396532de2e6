pub mod Maps
pub mod Places
pub mod AtStart
pub mod Invalidated
pub mod Serving
pub mod Lawful
pub mod LawsOffered
pub mod OpeningWords
