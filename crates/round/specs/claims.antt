-- What is claimed of rounds. What a round is stands in the modules beside this one.
pub mod Sound
pub mod Enough
pub mod Reasons
pub mod Timed
pub mod Demand
pub mod Completed
pub mod Replay
pub mod Trace
pub mod Again
