-- Definitions that the contracts of what the workers share cite, in the order in which to read them.
pub mod Accepting
pub mod Posts
pub mod Setting
pub mod Lasting
pub mod Advising
