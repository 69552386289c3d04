pub mod Counts
pub mod Laws
pub mod Printed
pub mod Uses
pub mod Walking
