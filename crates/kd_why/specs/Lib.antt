pub mod Inquiring
pub mod Saying
