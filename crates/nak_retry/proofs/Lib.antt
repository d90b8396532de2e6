pub mod Reissued
pub mod LawsOffered
