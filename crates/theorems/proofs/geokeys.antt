pub mod LookupTable
pub mod HalvingTheorems
