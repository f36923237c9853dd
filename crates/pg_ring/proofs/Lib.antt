pub mod Room
pub mod Waiting
pub mod Numbering
pub mod Handing
pub mod Fates
