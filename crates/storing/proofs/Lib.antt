pub mod Answers
pub mod Flags
pub mod Numbers
pub mod Puts
pub mod Room
