pub mod FrontLaws
pub mod PostLaws
