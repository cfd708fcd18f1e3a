-- what a round is
pub mod State
pub mod Actions
pub mod Jumps
pub mod Ticks
pub mod Rounds
pub mod Answers
-- what is claimed of it
pub mod claims
-- rounds by evaluation
pub mod examples
