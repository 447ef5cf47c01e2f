pub mod AssemblyLaws
