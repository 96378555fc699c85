-- The definitions of values, tuples and schemes: `Scheme` says what a relation is, `Table` what it has,
-- `Document` how schemes are written.
pub mod Value
pub mod Tuple
pub mod Table
pub mod Named
pub mod Order
pub mod Scheme
pub mod Fault
pub mod Reading
pub mod Document
pub mod Canon
pub mod Fits
pub mod PlaceOrder
pub mod Spelling
pub mod KeyReading
pub mod KeyWords
pub mod Extending
pub mod Writes
