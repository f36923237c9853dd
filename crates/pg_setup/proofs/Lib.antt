-- Lemmas on the edits that lead from one setup to another.
pub mod Adding
pub mod Quiet
pub mod Same
pub mod Leading
pub mod Calling
