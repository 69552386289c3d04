pub mod Image
pub mod Staging
pub mod Stops
pub mod Stores
pub mod Tail
