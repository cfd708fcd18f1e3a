pub mod Orders
pub mod Reasons
pub mod Joined
pub mod Without
pub mod Examples
