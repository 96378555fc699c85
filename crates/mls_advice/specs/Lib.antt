-- The definitions of what is told: of a place in a file in `Excerpt`, of the parts of a drawing in `Labels`.
pub mod Excerpt
pub mod Labels
