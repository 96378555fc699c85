-- The definitions of entries: `Entry` says which a level sees, `Spelling` how they are kept as bytes, `Sound` what
-- content is sound.
pub mod Entry
pub mod Spelling
pub mod Reading
pub mod Sound
