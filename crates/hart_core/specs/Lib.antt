pub mod HartState
pub mod Opening
pub mod Access
pub mod Meaning
