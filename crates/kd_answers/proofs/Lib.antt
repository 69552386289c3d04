pub mod Compiling
pub mod Shown
pub mod Typed
pub mod Verifying
