pub mod Elf
pub mod Written
