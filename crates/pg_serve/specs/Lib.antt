-- To be believed, in this order. The world: what it is handed and answers; what bytes make; the turns that its inputs are; what
-- it shows of them; what holds of each subscriber; of neighbours; of the bytes of data frames; beside another world; and of the
-- replay of a history.
pub mod Inputs
pub mod Actions
pub mod WorldStates
pub mod Shown
pub mod Full
pub mod Headline
pub mod OwnStates
pub mod Others
pub mod Framed
pub mod Beside
pub mod Replaying
-- only private contracts and proofs use these
pub mod Feeding
pub mod Taking
