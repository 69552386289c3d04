pub mod Order
pub mod HeldSet
pub mod Boot
pub mod Lifetime
