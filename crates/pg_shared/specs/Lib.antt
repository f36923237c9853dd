-- To be believed, in this order: the event that an edit is; a shared gateway, its gates, and the loop of a session.
pub mod Edits
pub mod Sharing
pub mod Gates
pub mod Onward
pub mod Serving
pub mod Delivery
pub mod Telling
pub mod Both
-- only private contracts and proofs use these
pub mod Continuing
pub mod Turned
