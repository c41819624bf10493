-- The desk over the loops of a server, beside the words of `toll_desk` and `acceptor_loops`.
pub mod Attends
-- The server as a whole: how its run ends.
pub mod Endings
pub mod Served
-- Doors of a server: which connections their ears accepted, in memory and on a port, and which of them has the pass.
pub mod Doors
pub mod MemDoors
pub mod TcpDoors
pub mod Turns
-- The words of the server: the port and the options that they give.
pub mod Meaning
pub mod App
pub mod Laws
