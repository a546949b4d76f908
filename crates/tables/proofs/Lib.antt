pub mod Addresses
pub mod Records
pub mod Sections
pub mod Sound
