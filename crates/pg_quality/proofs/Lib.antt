pub mod Rounding
pub mod Adding
pub mod Ranges
pub mod Stamps
pub mod Turns
pub mod Repeating
pub mod Pmus
