pub mod OpenLaws
pub mod RunLaws
pub mod FinishRoundLaws
pub mod FeedLaws
pub mod RoundLaws
pub mod SettleLaws
pub mod PublishLaws
pub mod FrontLaws
pub mod ReaderLaws
pub mod HaltLaws
pub mod DayLaws
pub mod GrowLaws
pub mod OutcomeLaws
pub mod LoopLaws
pub mod RoundJobLaws
pub mod TurnLaws
pub mod DrawnLaws
pub mod TurnedLaws
pub mod AskedRoundLaws
pub mod StoppedLaws
mod WorkLaws
mod FinishLaws
mod JobLaws
mod RepeatLaws
mod BlameLaws
mod AskedLaws
