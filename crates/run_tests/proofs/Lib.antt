pub mod Owned
pub mod Grown
