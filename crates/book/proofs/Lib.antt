pub mod Decided
pub mod Laid
pub mod OneReading
pub mod Routines
pub mod Parts
pub mod Reasons
