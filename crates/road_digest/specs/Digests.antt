-- The digest of bytes, which is their SHA-256.
use Rattle.std.specs.Prelude.{ℕ, ◌+◌, List, take}
use Rattle.sha2.specs.Sha256.{sha256}
use Rattle.road_sha.specs.Hashers.{Holds}
use Rattle.road_digest.specs.declared.digest.Digest.{Digest}
use Rattle.road_digest.specs.declared.digest.Digester.{Digester}

-- the digest of some bytes
abbrev pub digest_of : List ℕ → Digest
digest_of bytes = record { bytes = sha256 bytes }

-- what a repeated import of a day of n bytes compares: the digest of one byte more, or of all if there are fewer
abbrev pub found_digest : List ℕ → ℕ → Digest
found_digest bytes n = digest_of (take (n + 1) bytes)

-- a digester took these bytes, one piece after another
abbrev pub Took : Digester → List ℕ → Type 0
Took d bytes = Holds d.hasher bytes
