-- The definitions of rows: `Holding` says which rows content has, `Calls` what a call over them says, `Finding` what is
-- found in them, `Condemning` which of them is called bad.
pub mod Calls
pub mod Holding
pub mod Changes
pub mod Finding
pub mod Condemning
