pub mod Parts
pub mod Numbers
pub mod Signs
pub mod Digits
pub mod Names
pub mod Spelled
pub mod Fields
pub mod Laws
