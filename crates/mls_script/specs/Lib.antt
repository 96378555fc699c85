-- The definitions of scripts: `Grammar` has the form of what a line tells, and `Script` says which events a text
-- tells.
pub mod Fault
pub mod Grammar
pub mod Tokens
pub mod QueryTokens
pub mod BatchTokens
pub mod ReadList
pub mod ReadQuery
pub mod ReadParts
pub mod ReadBatch
pub mod Reading
pub mod Script
pub mod Writing
