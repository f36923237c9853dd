-- Definitions that the contracts of the alignment cite. What a reader must believe, in this order: a stream by the list of all its
-- arrivals; the same stream as its open slots stand, and what each call makes of it; what the one shows of the other; and what an
-- alignment is once a slot that it lent is given back.
pub mod Histories
pub mod Slots
pub mod Shown
pub mod Lending
-- Only private contracts and proofs use this: what the fields mean, and what they keep.
pub mod Counts
pub mod Fields
