-- Definitions that the contracts of the service's small types cite, in the order in which to read them.
pub mod Calling
pub mod Hosts
pub mod Clocks
pub mod Credits
pub mod Sources
pub mod Layouts
pub mod Switched
pub mod Windows
pub mod Connections
pub mod Misreading
pub mod Reading
pub mod Tcp
pub mod Moved
pub mod Acknowledged
pub mod Plans
pub mod Timers
