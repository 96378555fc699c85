pub mod EvaluationLemmas
pub mod FrameLemmas
pub mod PlainLemmas
pub mod RunLemmas
pub mod WriteLemmas
pub mod EndLemmas
