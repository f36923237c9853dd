-- Definitions that the contracts of the laws cite. Behind Known and Turns of pg_turn: the total of a counter; where two calls stand, and
-- what a counter's two totals count.
pub mod Totals
pub mod TwoCalls
-- behind the model of pg_session: how long a stream's data frames are
pub mod Lengths
-- behind Onward and Delivery of pg_shared: what a session was fed; a session since its Connect; two threads
pub mod Fed
pub mod Since
pub mod Threads
