pub mod PartLaws
pub mod LeftLaws
pub mod EvidenceLaws
