pub mod TryLaws
pub mod HistoryLaws
pub mod HoldLaws
pub mod SendLaws
pub mod DayLaws
pub mod ImportLaws
pub mod ReadLaws
pub mod LiveLaws
mod SharedLaws
pub mod StreamLaws
pub mod LimitLaws
