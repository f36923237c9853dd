-- Definitions that the contracts of what threads record cite.
pub mod Answering
pub mod Beginning
pub mod Recording
