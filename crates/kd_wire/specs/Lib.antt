pub mod Area
pub mod Header
pub mod Walk
pub mod Front
pub mod Put
pub mod Steps
pub mod Field
