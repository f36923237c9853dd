-- Definitions that the contracts of the gateway cite, in the order in which to read them. What happens, which blocks of a frame
-- are taken, what an event for all is to each subscriber, and the shared machine with its `May` and `next`:
pub mod GatewayEvents
pub mod Judging
pub mod Sharing
pub mod State
-- what the gateway shows of that machine, one step of both (Goes is the main clause of `Gateway::step`), and what comes back:
pub mod Related
pub mod Shown
pub mod Posting
pub mod Frugal
-- what a subscriber sees of all that, runs of events, and what holds of each subscriber
pub mod Views
pub mod Histories
pub mod Laws
pub mod Alike
-- only private contracts and proofs use these
pub mod Consistent
pub mod Placing
pub mod Taking
pub mod Routes
