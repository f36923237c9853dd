-- Definitions that the contracts of the setup file cite, in the order in which to read them.
pub mod Addresses
pub mod Setups
pub mod Ranges
pub mod Made
