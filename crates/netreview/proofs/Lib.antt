pub mod WholeRuns
