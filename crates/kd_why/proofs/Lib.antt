pub mod Inquired
