pub mod Records
pub mod Offered
pub mod Effects
