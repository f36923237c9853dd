-- Definitions that the contracts of links cite, in the order in which to read them. What a link tells of its source's frames, and
-- which commands it owes, by looking back (Owed says the same by places in the past):
pub mod Items
pub mod Commands
pub mod Owed
-- what a link keeps, what that shows of its past (Shows), and what its calls answer:
pub mod Asked
pub mod Linking
pub mod Shown
pub mod Links
-- one call of `run_link` (IsCall), how it ends, and all calls together (Served)
pub mod Runs
pub mod Ends
pub mod Served
-- one read, and one write of what is left
pub mod Transfers
-- only private contracts and proofs use these
pub mod Reading
pub mod Pendings
pub mod Begun
pub mod Turning
