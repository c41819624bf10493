-- The digest of a text that comes in pieces, if it is asked.
use Rattle.std.specs.Prelude.{ℕ, ◌≡◌, List, Option, Some, None, true}
use Rattle.road_digest.specs.declared.digest.Digest.{Digest}
use Rattle.road_digest.specs.Digests.{digest_of}
use Rattle.road_digest.specs.Beside.{TookBeside}
use Rattle.day_floor.specs.declared.text_digest.TextDigest.{TextDigest}

-- this text was taken, where its digest is asked
abbrev pub TookText : TextDigest → List ℕ → Type 0
TookText d text = d.asked ≡ true → TookBeside d.digester text

-- the digest of a text, if it was taken
abbrev pub IsDigestOf : Option Digest → List ℕ → Type 0
IsDigestOf (Some digest) text = digest ≡ digest_of text
IsDigestOf None text = Unit {0}
