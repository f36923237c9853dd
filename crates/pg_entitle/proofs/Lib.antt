-- Lemmas on keys in order, on sets of keys, and on what a search finds.
pub mod Orders
pub mod Sets
pub mod Searches
