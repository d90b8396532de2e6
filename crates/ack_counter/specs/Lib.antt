pub mod View
pub mod Steps
pub mod Entries
pub mod Laws
