-- Lemmas of recordings.
pub mod Recorded
