pub mod TextLaws
pub mod UseLaws
pub mod FieldLaws
pub mod NoticeLaws
pub mod CandidateLaws
pub mod GateLaws
pub mod TurnLaws
pub mod SortingLaws
