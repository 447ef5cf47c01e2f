pub mod ScalingLaws
