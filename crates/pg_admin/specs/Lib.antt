-- Definitions that the contracts of what the program says cite.
pub mod Said
