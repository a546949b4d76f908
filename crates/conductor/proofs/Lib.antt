pub mod Level
pub mod OnTables
pub mod Steps
pub mod Theorems
