-- Faults of the form of texts of transactions: where they stand.
pub mod Faults
