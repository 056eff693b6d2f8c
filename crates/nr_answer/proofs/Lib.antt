mod Spelled
mod Written
