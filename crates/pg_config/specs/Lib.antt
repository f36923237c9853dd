-- Definitions that the contracts of configurations and headers cite, in the order in which to read them.
-- A PMU's part of a configuration, and how a frame spells all of them.
pub mod Parts
pub mod Spelling
-- What a reader answers, refusal by refusal; what a writer gives, and how that is read back.
pub mod Reading
pub mod Writing
-- One PMU's own block among those of a frame.
pub mod Own
-- What a writer gives of a source's own configuration.
pub mod Sourced
-- Only private contracts and proofs use this.
pub mod Looking
