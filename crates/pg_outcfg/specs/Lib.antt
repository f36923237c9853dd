-- What a reader must believe, in this order: the CFG-1 list, the joined quality, the output frames, the front of a data frame, and what
-- the frames tell whoever reads them.
pub mod Listing
pub mod Quality
pub mod Frames
pub mod Ordered
pub mod HeadPrefixes
pub mod Reading
-- Only private contracts and proofs use these: places in the list, how it lies in memory, and a stamp's bytes.
pub mod Places
pub mod Stamped
