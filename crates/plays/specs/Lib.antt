pub mod Plays
pub mod SetPlays
