pub mod StartSteps
pub mod Reached
pub mod Rounds
pub mod NeverStarted
