pub mod MadeLaws
pub mod HearLaws
pub mod FineLaws
