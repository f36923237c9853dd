-- What a reader must believe, in the order in which to read it. The private gateway: its events; CFG-1 lists and their
-- comparison; what it asks of a stream's slots and of a queue; what an event is to one stream, and to the queue and counters; the whole
-- gateway; and the two ways to keep it, by all arrivals and all frames (the model) and by open slots and gaps (the code).
pub mod Events
pub mod Shape
pub mod Machines
pub mod Streams
pub mod Output
pub mod Private
pub mod ByAll
pub mod Kept
-- What a subscriber shows of it, one step of the two, and what an event asks of the subscriber.
pub mod Shown
pub mod Standing
pub mod Steps
pub mod Wanted
pub mod Ready
pub mod Filling
-- Laws of whole runs: fates of numbers, stamps, and which changes count.
pub mod Laws
pub mod Stamps
pub mod Counts
-- The session that cuts a subscriber's bytes into commands, and the buffer for its drains.
pub mod Commands
pub mod Pendings
-- Only private contracts and proofs use these.
pub mod Changing
pub mod Sending
pub mod Taking
pub mod Fields
