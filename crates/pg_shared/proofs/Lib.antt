-- Lemmas of the shared gateway and of the loops over it.
pub mod Opening
pub mod Legally
pub mod Sessions
pub mod Gating
pub mod Delivering
pub mod Links
pub mod Both
