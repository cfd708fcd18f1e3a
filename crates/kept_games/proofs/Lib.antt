pub mod Longest
pub mod Front
pub mod Found
pub mod Alike
pub mod Examples
