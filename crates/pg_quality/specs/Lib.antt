-- Definitions that the contracts of a PMU's measures cite, in the order in which to read them.
pub mod Counting
pub mod Instants
pub mod Placing
pub mod NextStamps
pub mod Tallies
pub mod Delaying
pub mod Stats
pub mod Frequencies
pub mod Watching
pub mod Measures
pub mod Summing
pub mod Announcing
pub mod Sources
