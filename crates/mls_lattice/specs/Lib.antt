-- The definitions of labels and policies: `Lattice` has the order of labels, `Policy` what a policy is,
-- `Says` how one is written.
pub mod Fault
pub mod Name
pub mod Version
pub mod Time
pub mod Lattice
pub mod Labels
pub mod Policy
pub mod Known
pub mod Reading
pub mod PolicyReading
pub mod Canon
pub mod Says
pub mod ReadsPolicy
pub mod Extending
