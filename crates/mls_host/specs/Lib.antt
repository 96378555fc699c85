-- The definitions of hosts and command lines: `Hosting` has what contracts see of a host, `Words` what words
-- ask for.
pub mod Hosting
pub mod Reason
pub mod Stop
pub mod Ending
pub mod Inputs
pub mod Storing
pub mod Telling
pub mod Causes
pub mod Stopping
pub mod Deed
pub mod Reading
pub mod Building
pub mod Words
