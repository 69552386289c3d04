pub mod Value
pub mod Measures
pub mod Tokens
pub mod Compiled
