-- The definitions of least labels: `Flows` says what bounds them, `Least` which they are.
pub mod Flows
pub mod Least
pub mod Fault
pub mod Rising
pub mod Ranges
pub mod Releases
pub mod Bits
