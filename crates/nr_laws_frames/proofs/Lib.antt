pub mod ItemLaws
pub mod FrameLaws
mod RowLaws
pub mod FileLaws
pub mod Lists
pub mod Least
pub mod Accepting
mod Collected
