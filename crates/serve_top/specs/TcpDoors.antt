-- What a door on a port counted.
use Rattle.std.specs.Prelude.{ℕ}
use Rattle.std.specs.declared.net.socket_addr.SocketAddr.{SocketAddr}
use Rattle.serve_room.specs.OwnPorts.{IsOwnPort}
use Rattle.serve_top.specs.declared.tcp_door.TcpDoor.{TcpDoor}
use Rattle.serve_top.specs.declared.tcp_ear.TcpEar.{TcpEar}

-- the connections that an ear accepted
abbrev pub accepted_by : {R : Type 0} → TcpEar R → ℕ
accepted_by e = e.accepted

-- its calls that failed
abbrev pub faults_of : {R : Type 0} → TcpEar R → ℕ
faults_of e = e.faults

-- the address at which it hears
abbrev pub address_of : {R : Type 0} → TcpEar R → SocketAddr
address_of e = e.room.at

-- it hears at a port that this machine alone reaches
abbrev pub HearsAt : {R : Type 0} → TcpEar R → ℕ → Type 0
HearsAt e port = IsOwnPort (address_of e) port

-- the openings that the door refused
abbrev pub refused_by : {R : Type 0} → TcpDoor R → ℕ
refused_by d = d.refused

-- the closings of ears of which one had failed
abbrev pub faults_at : {R : Type 0} → TcpDoor R → ℕ
faults_at d = d.faults

-- the connections that its ears accepted
abbrev pub accepted_at : {R : Type 0} → TcpDoor R → ℕ
accepted_at d = d.accepted
