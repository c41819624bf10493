-- Loops of a server: what each did with the connections that it drew.

pub mod Wires
pub mod Acceptors
pub mod MemListeners
