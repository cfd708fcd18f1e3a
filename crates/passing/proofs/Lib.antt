pub mod Held
pub mod Left
pub mod TurnMarks
pub mod Runs
pub mod Turning
pub mod OnePass
pub mod AllPasses
