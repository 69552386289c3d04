pub mod Cuts
pub mod Ends
pub mod Keys
pub mod Paired
pub mod PlaceRows
pub mod Rests
pub mod Segments
