-- Definitions that the contracts of data frames cite, in the order in which to read them.
pub mod Measurements
pub mod Reading
pub mod Filler
-- One PMU's block of a frame that many share, and what one PMU's part of a frame is.
pub mod Pieces
pub mod Sharing
-- Only private contracts and proofs use this.
pub mod Alone
