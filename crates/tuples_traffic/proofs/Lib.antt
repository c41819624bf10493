pub mod StepLaws
pub mod SortLaws
pub mod RangeLaws
pub mod TurnLaws
pub mod ReportLaws
pub mod FleetLaws
pub mod LengthLaws
pub mod FileLaws
