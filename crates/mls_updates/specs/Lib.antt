-- The definitions of writes: `Writes` says what each does, `Calls` what the code promises, and `Laws` what
-- follows.
pub mod Outcome
pub mod Writes
pub mod Laws
pub mod NewTuples
pub mod States
pub mod Calls
pub mod Steps
