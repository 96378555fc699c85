-- The definitions of what lives tell, `Lives` of runs and `Histories` of runs one after another; of what is released,
-- step by step (`Releasing`), and what the bits bound that are told of it (`Told`); of dumps that load back
-- (`Loading`), and their order (`Upward`); and of what `Queries` find.
pub mod Lives
pub mod Histories
pub mod Releasing
pub mod Loading
pub mod Upward
pub mod Queries
pub mod Told
