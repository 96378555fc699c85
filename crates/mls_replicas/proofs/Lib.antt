pub mod ReplicaLemmas
pub mod AgainLemmas
pub mod RecoveryLemmas
pub mod DoneLemmas
pub mod BatchLemmas
