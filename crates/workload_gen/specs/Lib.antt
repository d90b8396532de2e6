pub mod Workload
pub mod Program
pub mod Progress
pub mod Guarded
pub mod LastStores
pub mod RunLaws
pub mod Summary
pub mod LockWords
