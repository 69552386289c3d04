pub mod Start
pub mod Trials
