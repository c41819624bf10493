-- The notices of one second in any order.
pub mod Seconds
-- An audit: what vehicles did, by shards; what was found for them, by ways; and what they owe.
pub mod Counted
pub mod Seen
pub mod Own
pub mod Stands
pub mod Routing
pub mod Closing
pub mod Jobs
pub mod Laws
pub mod Payments
