-- Definitions that the contracts of the tools cite.
pub mod Expecting
pub mod Faulting
pub mod Holdover
pub mod Playing
pub mod Queueing
pub mod Retrying
pub mod Slots
