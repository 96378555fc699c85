-- The definitions of the four tables: `Schema` says what SQL defines, `Statements` what each statement does,
-- `Store` what calls do.
pub mod Adopting
pub mod Rows
pub mod Schema
pub mod Sql
pub mod Statements
pub mod Store
pub mod Pattern
