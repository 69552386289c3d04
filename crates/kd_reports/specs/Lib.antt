pub mod Words
pub mod KeaWords
