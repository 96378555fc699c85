pub mod SearchLemmas
pub mod TellingLemmas
