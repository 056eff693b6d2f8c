pub mod LogFile
pub mod StorePlans
pub mod StoreCrashes
