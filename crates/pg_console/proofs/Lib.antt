-- Lemmas of seats that are joined.
pub mod Joined
