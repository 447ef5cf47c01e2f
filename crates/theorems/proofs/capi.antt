pub mod NumberLaws
pub mod ZeroWhereAccepted
pub mod OwnBits
