pub mod Forms
pub mod Timed
