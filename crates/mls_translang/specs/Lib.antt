-- The definitions of transactions: `Tree` and `Tx` have the trees, `Tokens` their texts, and `Tells` says
-- which a text tells.
pub mod Tree
pub mod ExprCode
pub mod Exprs
pub mod Expressions
pub mod ExprFalls
pub mod BlockCode
pub mod Blocks
pub mod BlockFalls
pub mod Scope
pub mod Tx
pub mod Kinds
pub mod Fits
pub mod Layout
pub mod Tokens
pub mod ReadsBack
pub mod Tells
pub mod Event
pub mod RunFault
pub mod Writing
