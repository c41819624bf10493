pub mod RunLaws
pub mod FeedLaws
pub mod StopLaws
