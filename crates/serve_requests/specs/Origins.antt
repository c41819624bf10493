-- Requests that a page of the web may have sent.
use Rattle.std.specs.Prelude.{ℕ, Bool, true, not, ◌&&◌, ◌||◌, ◌==◌, List, [], ◌∷◌, length, take, drop, codes}
use Rattle.std.specs.Char.{is_ascii_digit}
use Rattle.std.specs.List.{list_all, list_any}
use Rattle.std.specs.Str.{str_eq_ignore_ascii_case}

-- what may stand behind the name of a host: nothing, or a colon and the digits of a port
abbrev pub is_port : List ℕ → Bool
is_port [] = true
is_port (b ∷ digits) = (b == 58) && list_all is_ascii_digit digits

-- a host is of this name, whatever the case of its letters, at any port
abbrev pub is_host_of : List ℕ → List ℕ → Bool
is_host_of name host = str_eq_ignore_ascii_case (take (length name) host) name && is_port (drop (length name) host)

-- a host is this machine, by one of the names of its own that no page of another origin has
abbrev pub is_own_host : List ℕ → Bool
is_own_host host =
    is_host_of (codes "127.0.0.1") host || (is_host_of (codes "localhost") host || is_host_of (codes "[::1]") host)

-- a browser tells that a page of this server asked for a request, or that none did
abbrev pub is_own_site : List ℕ → Bool
is_own_site site =
    str_eq_ignore_ascii_case site (codes "same-origin") || str_eq_ignore_ascii_case site (codes "none")

-- a field that names the page's origin, another host than this machine, or the page of another site
abbrev pub is_foreign_field : List ℕ × List ℕ → Bool
is_foreign_field field =
    str_eq_ignore_ascii_case field.0 (codes "Origin")
    || ((str_eq_ignore_ascii_case field.0 (codes "Host") && not (is_own_host field.1))
    || (str_eq_ignore_ascii_case field.0 (codes "Sec-Fetch-Site") && not (is_own_site field.1)))

-- a head with such a field
abbrev pub is_foreign : List (List ℕ × List ℕ) → Bool
is_foreign fields = list_any is_foreign_field fields
