pub mod RunLaws
pub mod CauseLaws
pub mod GrowLaws
pub mod LeaveLaws
pub mod ObjectLaws
pub mod UnmadeLaws
pub mod UnmadeRuns
