-- Definitions that the contracts of what an operator sees cite, in the order in which to read them.
pub mod Ages
pub mod Seconds
pub mod Requests
pub mod Healths
pub mod Lines
pub mod Stations
