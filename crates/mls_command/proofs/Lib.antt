pub mod ActingLemmas
pub mod AccountLemmas
pub mod TellingLemmas
pub mod CertifyingLemmas
pub mod PrintingLemmas
pub mod IgnoredLemmas
pub mod NamedLemmas
