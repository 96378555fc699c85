-- The definitions of tables of cases.
pub mod Lines
pub mod Told
