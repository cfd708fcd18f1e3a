pub mod Signals
pub mod Taking
pub mod Settling
pub mod Opened
