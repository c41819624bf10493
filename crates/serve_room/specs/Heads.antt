-- What the first bytes of a connection tell of its head.
use Rattle.std.specs.Prelude.{◌⊎◌, ℕ, List}
use Rattle.httparse.specs.Grammar.{RequestHead, ReadsRequest, HasNoRequest, MayBecomeRequest}
use Rattle.httparse.specs.Spans.{RequestOverflows}

-- a head stands first, or whatever follows none of at most 64 fields does
abbrev pub NeedsNoMore : List ℕ → Type 0
NeedsNoMore held = ((h : RequestHead) × (rest : List ℕ) × ReadsRequest held h rest) ⊎ RequestOverflows 64 held

-- no head stands first, and one may come to
abbrev pub WaitsOn : List ℕ → Type 0
WaitsOn held = HasNoRequest held × MayBecomeRequest held
