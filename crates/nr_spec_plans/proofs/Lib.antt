pub mod PlanLemmas
pub mod PlanLaws
pub mod SaveLaws
pub mod StepLaws
pub mod OrderLaws
