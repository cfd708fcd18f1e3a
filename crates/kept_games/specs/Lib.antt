pub mod Kept
pub mod Alike
pub mod Examples
