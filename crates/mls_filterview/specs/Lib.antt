-- The definitions of relations: `View` says what a level sees, `Stored` in which form tuples are kept,
-- `Calls` what a base promises, and `Laws` what follows.
pub mod Subsumption
pub mod View
pub mod Stored
pub mod Integrity
pub mod Content
pub mod Calls
pub mod Fragment
pub mod Assembly
pub mod Filtering
pub mod Rules
pub mod Checking
pub mod RowOrder
pub mod Reach
pub mod Entities
pub mod Widen
pub mod Laws
