-- Rounds by evaluation.
pub mod Examples
pub mod Ops
