pub mod Arguments
pub mod Line
pub mod Order
pub mod Steps
pub mod Values
