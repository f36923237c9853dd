-- Lemmas of the connections to sources.
pub mod Calls
