pub mod Contents
pub mod ContentReading
