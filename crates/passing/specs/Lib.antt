pub mod Effects
pub mod Turns
pub mod Passes
