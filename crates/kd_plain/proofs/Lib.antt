pub mod Spans
pub mod Signs
pub mod Cuts
pub mod Written
pub mod Includes
pub mod Blanked
pub mod Already
