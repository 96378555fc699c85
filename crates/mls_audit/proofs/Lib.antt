pub mod ReadingSteps
pub mod EntryLemmas
pub mod SoundLemmas
