pub mod Caches
pub mod Marks
pub mod Holding
pub mod View
pub mod Shared
pub mod Changes
