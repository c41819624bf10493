-- The ends of a connection that waited.
use Rattle.std.specs.declared.net.tcp.TcpStream.{TcpStream}
use Rattle.serve_room.specs.declared.patient.Patient.{Patient}
use Rattle.serve_room.specs.declared.room_link.RoomEnds.{RoomEnds}

-- the ends of a connection with another stream
abbrev pub with_stream : RoomEnds → Patient TcpStream → RoomEnds
with_stream ends other = record ends { stream = other }
