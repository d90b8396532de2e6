pub mod OrderLaws
pub mod WrittenLogs
pub mod MergedLogs
pub mod RunEnds
pub mod Settled
pub mod Taking
