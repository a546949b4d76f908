pub mod Planes
pub mod Calls
pub mod Grid
pub mod Bytes
pub mod Layouts
pub mod Returns
pub mod Examples
