pub mod Handed
pub mod Log
pub mod Theorem
