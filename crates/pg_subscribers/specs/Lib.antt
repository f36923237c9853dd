-- Definitions that the contracts of the connections of subscribers cite.
pub mod Endpoints
pub mod LateLooks
