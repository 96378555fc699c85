-- The definitions of what is told: of transactions in `Telling`, of stores in `Diagnosis`.
pub mod Steps
pub mod Chains
pub mod Search
pub mod Explaining
pub mod Telling
pub mod Diagnosis
