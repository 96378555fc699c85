pub mod HostingLemmas
pub mod StoringLemmas
pub mod CauseLemmas
pub mod WholeLemmas
pub mod StoppingLemmas
pub mod WordsLemmas
