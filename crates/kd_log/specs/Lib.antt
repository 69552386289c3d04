pub mod Import
pub mod Laws
pub mod LeaseParts
pub mod LogParts
pub mod Logged
pub mod People
pub mod Printed
