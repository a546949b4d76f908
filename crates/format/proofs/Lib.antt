pub mod KindLaws
pub mod NumberLaws
