pub mod WordLemmas
pub mod SecretSteps
