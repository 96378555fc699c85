-- The definitions of stores: `Holding` says which rows content has, `Creating` what is made in files, `Opening` what is
-- opened, `Again` what files keep.
pub mod Holdings
pub mod Based
pub mod OpenFault
pub mod Migrating
pub mod Creating
pub mod Opening
pub mod OneContent
pub mod Parts
pub mod Again
pub mod MemoryFile
