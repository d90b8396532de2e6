pub mod View
pub mod Rows
pub mod Steps
pub mod Kept
pub mod Laws
