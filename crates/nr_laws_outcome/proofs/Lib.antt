pub mod Told
pub mod Said
pub mod Steps
pub mod Printed
