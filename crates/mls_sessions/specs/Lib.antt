-- The definitions of sessions over a base: `Engine` says what an engine keeps to, `Run` what a run writes.
pub mod World
pub mod Turns
pub mod Engine
pub mod Calling
pub mod Cause
pub mod Run
pub mod Turning
pub mod Denying
pub mod Sessions
pub mod Sites
pub mod Access
pub mod Batches
