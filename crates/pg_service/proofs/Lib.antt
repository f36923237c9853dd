-- Lemmas of what the workers share.
pub mod Taken
pub mod Ordered
