pub mod NumberWalk
pub mod SegmentWalk
pub mod Seeing
pub mod Reading
pub mod Short
