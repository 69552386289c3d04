pub mod Keys
pub mod Left
pub mod Documents
