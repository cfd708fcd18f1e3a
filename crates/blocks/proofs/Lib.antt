pub mod Misplaced
pub mod Parses
pub mod Sound
pub mod Views
pub mod Whiles
pub mod Ahead
