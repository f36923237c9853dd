pub mod Expecting
pub mod Fitting
