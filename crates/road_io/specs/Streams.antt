-- The ends of a connection.
use Rattle.std.specs.declared.net.tcp.TcpStream.{TcpStream}
use Rattle.road_io.specs.declared.edges.TcpEnds.{TcpEnds}

-- the ends of a connection with another stream
abbrev pub with_stream : TcpEnds → TcpStream → TcpEnds
with_stream ends other = record ends { stream = other }
