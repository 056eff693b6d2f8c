mod ItemSteps
mod Matching
mod Written
