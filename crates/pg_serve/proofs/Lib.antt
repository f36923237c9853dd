-- Lemmas of the world.
pub mod Doing
pub mod Owed
pub mod Lines
pub mod Taking
pub mod Running
pub mod Determined
pub mod Belonging
pub mod Framing
pub mod Neighbours
pub mod Measured
pub mod Apart
pub mod Handing
pub mod Isolating
pub mod Besides
pub mod Replaying
