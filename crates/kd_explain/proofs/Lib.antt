pub mod Accounts
pub mod Giving
pub mod Listing
pub mod Made
pub mod Testing
