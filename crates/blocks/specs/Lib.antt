pub mod Blocks
pub mod Parse
