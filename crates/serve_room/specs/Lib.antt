-- Connections that wait for their head: what their bytes tell, how long one may wait, and which goes first.

pub mod Addresses
pub mod Fronts
pub mod Giving
pub mod Heads
pub mod Judged
pub mod Outsides
pub mod OwnPorts
pub mod Passing
pub mod Posts
pub mod Streams
pub mod Times
