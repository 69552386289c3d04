pub mod Located
pub mod Lookup
pub mod Mark
pub mod Place
pub mod PlaceLaws
pub mod Report
pub mod Words
