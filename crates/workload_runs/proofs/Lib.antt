pub mod Lists
pub mod LastStores
pub mod Stored
pub mod Summaries
pub mod AddedUp
