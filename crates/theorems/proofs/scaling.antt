pub mod SignedLaws
pub mod RoundLaws
pub mod ExactLaws
pub mod CoordinateTheorems
