pub mod ConductLaws
