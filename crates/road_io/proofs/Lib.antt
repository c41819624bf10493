pub mod EndLaws
pub mod LineLaws
pub mod PlanLaws
pub mod SinkLaws
