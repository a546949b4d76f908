pub mod AlikeLaws
pub mod AdvanceLaws
pub mod CrashLaws
pub mod HaltLaws
