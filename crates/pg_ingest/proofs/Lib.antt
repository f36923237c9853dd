-- Lemmas of links.
pub mod Owing
pub mod Holding
pub mod Telling
pub mod Again
pub mod Past
pub mod Known
pub mod Stepping
pub mod Turns
pub mod Serving
