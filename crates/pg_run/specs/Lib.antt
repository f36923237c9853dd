-- Definitions that the contracts of the running program cite.
pub mod Limits
pub mod OpenedPorts
pub mod Kinds
