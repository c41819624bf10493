-- A digest that a thread takes beside the caller.

pub mod Beside
pub mod Digests
