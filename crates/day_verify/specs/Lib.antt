-- Whether what is kept of a day is what its bytes come to.
pub mod Partings
pub mod Verdicts
pub mod Jobs
pub mod Laws
