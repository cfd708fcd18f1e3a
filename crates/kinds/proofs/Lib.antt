pub mod Readable
pub mod Rows
pub mod Limits
