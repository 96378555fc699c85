-- The definitions of commands: `Answering` says what comes of a command line, `Acting` what a job does.
pub mod Explained
pub mod Acting
pub mod Opening
pub mod Telling
pub mod Looking
pub mod Accounting
pub mod Answering
pub mod Printing
pub mod Certifying
pub mod Checking
pub mod Explaining
pub mod Showing
pub mod Closing
pub mod AnsweringOver
pub mod Named
