pub mod Prefixes
pub mod PrefixText
pub mod Paths
pub mod Attributes
pub mod Messages
pub mod Records
