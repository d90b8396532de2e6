pub mod Maps
pub mod Places
pub mod Totals
pub mod Counted
pub mod Changing
pub mod AtStart
pub mod LawsOffered
