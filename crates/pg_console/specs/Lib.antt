-- Definitions that the contracts of a shared gateway and its console cite.
pub mod Joining
pub mod Kinds
