pub mod Sending
pub mod Deliveries
