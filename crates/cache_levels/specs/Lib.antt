pub mod View
pub mod LineSet
pub mod Places
pub mod Within
