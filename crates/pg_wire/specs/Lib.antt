-- Definitions that the contracts of frames cite, in the order in which to read them.
-- The refusals by number and name, and keys of PMUs.
pub mod Number
pub mod Keys
-- A frame on its bytes: its length, its check, what skips it; then as a head and a body.
pub mod Check
pub mod Frame
pub mod Kinds
pub mod Head
pub mod Heads
-- A stream: its one split into frames, what a deframer shows of it, what a call of `next` gives, what one read gave.
pub mod Stream
pub mod Split
pub mod Taking
pub mod Reads
-- Only private contracts and proofs use these, here and in the crates above.
pub mod CrcShift
pub mod NextFrame
pub mod Held
