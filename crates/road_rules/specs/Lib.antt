-- The plain rules, step by step as simple code computes them over a whole day.

pub mod Seen
pub mod Flows
pub mod Findings
pub mod Accounts
pub mod Outputs
pub mod Verdicts
pub mod Halts
pub mod Groups
pub mod RowParts
pub mod Gathered
pub mod Payments
