pub mod Chains
pub mod Unstarted
pub mod Seen
pub mod Claims
pub mod Examples
