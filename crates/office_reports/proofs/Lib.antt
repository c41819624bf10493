pub mod AddLaws
pub mod LineLaws
pub mod WayLaws
pub mod EndingLaws
pub mod ExportLaws
pub mod WorkedLaws
pub mod SpanLaws
