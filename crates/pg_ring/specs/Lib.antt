-- Definitions that the contracts of the output queue cite, in the order in which to read them.
-- What its readers show; the numbers of data frames, and what becomes of each.
pub mod Shown
pub mod Numbers
pub mod Fates
-- The same of what is shown alone, gap by gap: exact clauses beside those on numbers.
pub mod Steps
-- Only private contracts and proofs use these: the ring's items and the fields.
pub mod Items
pub mod Fields
