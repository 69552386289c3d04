pub mod OnFiles
pub mod Trials
