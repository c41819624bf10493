-- Traffic that a plan draws: crashes and trips, their reports and requests, and the file of them.

pub mod Plans
pub mod Directions
pub mod Reports
pub mod Crashes
pub mod Trips
pub mod Traffic
pub mod Turns
pub mod Endings
pub mod Laws
