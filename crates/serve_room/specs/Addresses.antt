-- Which address a room hears at.
use Rattle.std.specs.declared.net.socket_addr.SocketAddr.{SocketAddr}
use Rattle.serve_room.specs.declared.room.WaitingRoom.{WaitingRoom}

-- the address at which a room was opened
abbrev pub address_of : WaitingRoom → SocketAddr
address_of room = room.heard.at
