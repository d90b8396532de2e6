pub mod Files
pub mod Powers
pub mod Accepted
