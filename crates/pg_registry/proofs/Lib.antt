-- Lemmas on the list of registered PMUs, and its laws.
pub mod Lists
pub mod Staying
pub mod Near
