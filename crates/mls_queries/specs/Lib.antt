-- The definitions of queries: `Query` says what is found, and `Laws` what follows.
pub mod Data
pub mod Query
pub mod Places
pub mod Demanded
pub mod Equated
pub mod Parts
pub mod Finding
pub mod Laws
pub mod Views
