pub mod Answered
pub mod Defining
pub mod Grouped
pub mod Imported
pub mod Reported
pub mod Risen
pub mod Told
