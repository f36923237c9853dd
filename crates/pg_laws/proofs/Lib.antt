-- two calls of a turnstile, of a counter
mod Counting
mod Pairs
-- how long a stream's data frames are
pub mod Blocks
pub mod Listings
pub mod Slots
pub mod Layouts
pub mod Turns
pub mod Numbers
pub mod Runs
pub mod Taken
-- sessions, links and threads of the running service
mod Joining
mod Lasting
