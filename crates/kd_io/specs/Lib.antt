pub mod Faults
pub mod Looking
pub mod Sending
pub mod Taking
