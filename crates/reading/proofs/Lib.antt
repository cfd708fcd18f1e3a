mod Views
mod Lowered
mod Steps
mod Remaining
mod OwnBlock
mod Places
