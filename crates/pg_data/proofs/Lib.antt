pub mod Blocks
pub mod Changes
pub mod Fillers
pub mod Spellings
pub mod Shares
pub mod Sources
pub mod Setting
pub mod Framing
