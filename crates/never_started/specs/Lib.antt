pub mod NeverStarted
