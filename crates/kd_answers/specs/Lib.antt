pub mod Printed
pub mod Show
pub mod Status
