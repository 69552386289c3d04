pub mod Counting
pub mod Listed
pub mod Networked
pub mod Together
