-- Definitions that the contracts of reload cite, in the order in which to read them.
pub mod Alike
pub mod Edits
pub mod Restarts
pub mod Ports
pub mod Orders
pub mod Apart
pub mod Leading
