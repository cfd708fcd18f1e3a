pub mod Answers
pub mod Starts
pub mod Flags
pub mod Finding
pub mod Searching
pub mod Decides
pub mod Names
pub mod Examples
