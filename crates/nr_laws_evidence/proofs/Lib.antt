pub mod ClaimLaws
pub mod FileLaws
