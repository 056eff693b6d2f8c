pub mod PlanSteps
pub mod LogSteps
pub mod EvidenceSteps
