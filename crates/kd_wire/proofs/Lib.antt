pub mod Areas
pub mod Written
