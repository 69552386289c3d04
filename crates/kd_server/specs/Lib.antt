pub mod Batch
pub mod Looks
pub mod Server
pub mod Staging
pub mod Step
pub mod Trial
pub mod Turn
pub mod Unkept
