pub mod Counting
pub mod Buffers
pub mod Numbers
pub mod Bytes
pub mod Relations
pub mod Sums
