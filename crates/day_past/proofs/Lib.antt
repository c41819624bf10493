mod HistoryLaws
mod AskedAmountLaws
pub mod LineLaws
pub mod RisingLaws
pub mod AmountLaws
pub mod JudgeLaws
pub mod ReadLaws
pub mod KeepLaws
pub mod PutLaws
pub mod CauseLaws
pub mod AskedLaws
