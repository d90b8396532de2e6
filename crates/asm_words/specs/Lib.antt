pub mod Cuts
pub mod Names
pub mod Numbers
pub mod Tables
pub mod Mnemonics
pub mod Again
pub mod Operands
