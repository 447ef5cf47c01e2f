pub mod Lists
pub mod Bytes
pub mod Text
pub mod Checks
pub mod Refusals
