-- Definitions that the contracts of recordings cite, in the order in which to read them.
pub mod Numbers
pub mod Records
pub mod Blocks
pub mod Checksums
pub mod Taping
pub mod Elapsing
pub mod Merging
pub mod Rows
