pub mod Searches
pub mod Seeking
pub mod Acting
pub mod StepMarks
pub mod Accepting
