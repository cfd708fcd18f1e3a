pub mod Kept
pub mod Orders
