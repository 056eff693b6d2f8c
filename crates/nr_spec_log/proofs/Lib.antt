pub mod EntrySteps
