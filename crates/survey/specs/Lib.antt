pub mod Marked
pub mod Standing
