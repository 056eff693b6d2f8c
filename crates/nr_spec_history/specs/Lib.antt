pub mod Conflicts
pub mod Lines
pub mod KeyFiles
