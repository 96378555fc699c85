-- The definitions of calls that run over a base.
pub mod Environment
pub mod Frames
pub mod Runs
pub mod Ends
