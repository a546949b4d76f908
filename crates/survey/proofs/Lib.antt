pub mod MarkLaws
pub mod SeenLaws
pub mod RunningLaws
pub mod LevelLaws
pub mod TagLaws
