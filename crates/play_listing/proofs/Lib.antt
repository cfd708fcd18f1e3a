pub mod Few
pub mod Long
pub mod Prints
pub mod Short
