pub mod HalfLaws
