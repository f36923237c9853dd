-- Definitions that the contracts of the replay cite, in the order in which to read them: what a line asks for, the text of an
-- answer, what a script prints (Replays is the clause of `replay`), and how a fault is told.
pub mod Lines
pub mod Printing
pub mod Replaying
pub mod Faults
-- only private contracts and proofs use these
pub mod Answering
