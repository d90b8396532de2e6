pub mod Places
pub mod Values
pub mod Found
pub mod Again
pub mod Cutting
pub mod Texts
