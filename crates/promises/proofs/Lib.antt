pub mod Conditions
pub mod Counts
pub mod Kept
pub mod Level
pub mod Ranks
pub mod Still
