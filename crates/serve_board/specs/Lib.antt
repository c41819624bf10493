-- The board of the day that is being imported: its totals, its history, and the rule by which its readers see it.

pub mod Totals
pub mod Codes
pub mod OperationLog
pub mod Changes
pub mod Passes
pub mod InOrder
pub mod Laws
pub mod Worked
