pub mod Fits
pub mod Arrays
pub mod Routines
pub mod Fitting
