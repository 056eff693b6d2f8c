pub mod ClimbSteps
pub mod HeapSteps
