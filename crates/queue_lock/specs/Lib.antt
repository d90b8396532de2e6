pub mod View
pub mod Steps
pub mod Kept
pub mod Laws
