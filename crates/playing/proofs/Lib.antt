pub mod Asking
pub mod Passes
pub mod Marking
pub mod Finished
pub mod Answering
