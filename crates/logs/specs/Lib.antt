pub mod Log
pub mod Handed
pub mod Theorem
