-- The definitions of replicas: `Replicas` says what is fed and what then agrees, `Again` what a write leaves that
-- is done once more.
pub mod Replicas
pub mod Again
