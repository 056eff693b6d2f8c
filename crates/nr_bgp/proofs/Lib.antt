pub mod PrefixWalk
pub mod Lengths
pub mod Elements
pub mod ReadBack
