-- Lemmas of the connections of subscribers.
pub mod Own
pub mod Running
