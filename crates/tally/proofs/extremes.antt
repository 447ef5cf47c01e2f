pub mod ExtremeLaws
