-- Definitions that the contracts of the connections to sources cite.
pub mod Connections
pub mod Measuring
