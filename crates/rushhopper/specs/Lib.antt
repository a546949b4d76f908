pub mod Layouts
pub mod Values
