pub mod Actions
pub mod Games
