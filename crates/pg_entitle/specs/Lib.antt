-- What a reader must believe: a set of granted keys, and what each call makes of it.
pub mod Grants
-- Only private contracts and proofs use this: places in the list, and how it lies in memory.
pub mod Places
