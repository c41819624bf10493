-- A keeper over a connection: what its queries show and its calls answer.

pub mod Exact
pub mod Gives
pub mod Looks
pub mod Shows
