pub mod GeoKeys
pub mod Halving
pub mod Places
pub mod Values
