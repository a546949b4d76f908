pub mod Bytes
pub mod Layouts
pub mod Returns
pub mod Again
