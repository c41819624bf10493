pub mod DayLaws
