pub mod Batches
pub mod Headed
pub mod Staged
pub mod Stepped
pub mod Stopping
