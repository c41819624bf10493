pub mod VerdictLaws
pub mod JobLaws
pub mod RightLaws
