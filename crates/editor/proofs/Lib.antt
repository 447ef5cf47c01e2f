pub mod MendLaws
pub mod MendedFile
