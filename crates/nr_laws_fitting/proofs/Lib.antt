pub mod Behind
pub mod Frameless
pub mod Recorders
pub mod Recordings
pub mod Timely
pub mod Fits
