pub mod Pokes
