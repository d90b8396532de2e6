pub mod Words
mod Tables
pub mod Numbers
pub mod Pieces
mod Mnemonics
mod Operands
mod Rows
mod SameRow
mod Prefetches
mod Unique
