-- The definitions of tokens: `Text` says which a text has, `Scanning` how they are read, `Writing` how they
-- are written.
pub mod Writing
pub mod Sign
pub mod Text
pub mod Spot
pub mod Scanning
pub mod Passing
pub mod Screen
pub mod Table
pub mod Typing
pub mod Whole
