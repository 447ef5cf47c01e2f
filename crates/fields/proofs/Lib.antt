pub mod ListLaws
pub mod ByteLaws
pub mod StoreLaws
pub mod TextLaws
pub mod CheckLaws
pub mod RefusalLaws
pub mod LiftLaws
