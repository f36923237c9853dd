-- Definitions that the contracts of lines cite, in the order in which to read them.
pub mod Words
pub mod Verbs
pub mod Lines
pub mod Edits
-- the line that answers an edit, a question or a refusal
pub mod Printing
pub mod Addresses
pub mod Steers
pub mod Questions
-- how clap reads a line: only private contracts and proofs use these
pub mod Clap
