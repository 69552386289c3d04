pub mod Table
pub mod Pieces
pub mod Values
