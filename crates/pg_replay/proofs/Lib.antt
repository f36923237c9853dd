-- Lemmas of the replay.
mod NoKind
pub mod PrintLaws
pub mod ReplayLaws
pub mod LineLaws
