pub mod Units
pub mod Rounds
pub mod Progress
pub mod Serial
pub mod Stamps
pub mod Ending
pub mod Finished
pub mod Weight
