pub mod Fault
pub mod Moves
pub mod Reading
