pub mod Cuts
pub mod Plain
pub mod Fields
pub mod Endings
