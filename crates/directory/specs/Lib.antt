pub mod Sharers
pub mod Rows
pub mod View
pub mod Opening
pub mod Kept
pub mod Laws
