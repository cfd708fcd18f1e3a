pub mod Book
pub mod Accepted
pub mod Reasons
pub mod Written
pub mod Examples
