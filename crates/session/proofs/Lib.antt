pub mod RecordLaws
pub mod ReportLaws
