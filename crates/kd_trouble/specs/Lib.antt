pub mod Faults
pub mod Troubles
