pub mod Images
pub mod Crashes
pub mod Firm
