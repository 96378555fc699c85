pub mod SoFarLemmas
pub mod StopLemmas
pub mod DeskStopLemmas
pub mod AnswerLineLemmas
pub mod MarkLemmas
pub mod AddedLemmas
pub mod LifetimeLemmas
pub mod UnopenedLemmas
