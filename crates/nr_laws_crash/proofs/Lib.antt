pub mod CrashLaws
pub mod ImageLaws
pub mod FirmLaws
pub mod SoundLaws
