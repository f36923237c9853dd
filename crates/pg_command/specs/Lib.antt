-- Definitions that the contracts of commands cite, in the order in which to read them.
pub mod Words
pub mod Spelling
pub mod Reading
