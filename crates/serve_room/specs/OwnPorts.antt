-- The ports that this machine alone reaches.
use Rattle.std.specs.Prelude.{◌≡◌, ℕ, [], ◌∷◌}
use Rattle.std.specs.Net.Addr.{ipv4_octets}
use Rattle.std.specs.Net.Socket.{socket_ip, socket_port}
use Rattle.std.specs.declared.net.ip_addr.IpAddr.TheVariants.{V4}
use Rattle.std.specs.declared.net.ipv4_addr.Ipv4Addr.{Ipv4Addr}
use Rattle.std.specs.declared.net.socket_addr.SocketAddr.{SocketAddr}

-- an address is a port of 127.0.0.1, which this machine alone reaches
abbrev pub IsOwnPort : SocketAddr → ℕ → Type 0
IsOwnPort at port =
    (ip : Ipv4Addr) × (ipv4_octets ip ≡ 127 ∷ 0 ∷ 0 ∷ 1 ∷ []) × (socket_ip at ≡ V4 ip) × (socket_port at ≡ port)
