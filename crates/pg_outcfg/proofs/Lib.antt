pub mod Orders
pub mod Places
pub mod Blocks
pub mod Joining
pub mod Joined
pub mod Reading
pub mod Ordered
pub mod Stamping
