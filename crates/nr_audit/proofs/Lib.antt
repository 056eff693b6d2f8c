pub mod Seeing
pub mod Files
pub mod Naming
pub mod Numbered
pub mod Rooms
pub mod Walking
pub mod Judging
pub mod Before
