pub mod FileChecks
pub mod Passed
pub mod HeaderFields
pub mod Records
pub mod Inputs
