mod Told
mod Sights
mod Rows
mod Stated
mod Meeting
