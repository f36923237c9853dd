pub mod Names
pub mod Lists
pub mod Labels
pub mod Sources
