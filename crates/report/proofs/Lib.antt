pub mod BenchLaws
pub mod DigitLaws
pub mod PageLaws
