pub mod GateLaws
pub mod RuleLaws
pub mod DoableLaws
pub mod StepLaws
pub mod ActLaws
