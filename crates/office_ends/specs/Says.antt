-- What is said of a run that failed.
use Rattle.std.specs.Prelude.{ℕ, ◌≡◌, ◌≢◌, List, Option, Some, None, Result, IsOk, String, codes, string_bytes}
use Rattle.std.specs.Global.{Global}
use Rattle.road_io.specs.Rooms.{Room, Endless, PutsBytes}
use Rattle.road_io.specs.declared.source.Failed.{Failed}

-- the line of a source or an aside that failed
abbrev pub unread_line : List ℕ
unread_line = codes "toll_office: standard input or notices.txt cannot be read\n"

-- the line of want of memory
abbrev pub unroomed_line : List ℕ
unroomed_line = codes "toll_office: memory ran out\n"

-- a line was written, or where there was no room for all of it fewer of its first bytes
abbrev pub Said : Room → Option (List ℕ) → Option (List ℕ) → List ℕ → Type 0
Said room old new line =
    (r : Result (Unit {0}) Failed) × PutsBytes old new r line × (room ≡ Endless → IsOk r)

-- a cause was said, and where there is none nothing
abbrev pub SaysCause : Option (String Global) → (List ℕ → Type 0) → Type 0 → Type 0
SaysCause None said quiet = quiet
SaysCause (Some line) said quiet = said (string_bytes line)

-- what is said, by the status: the cause that the keeper gives, or a line of its own, and of a run that did not fail
-- nothing
pub record SaysWhy (status : ℕ) (gives : Option (String Global) → Type 0) (said : List ℕ → Type 0) (quiet : Type 0) :
    Type 0 where
  pub unread : status ≡ 4 → said unread_line
  pub unkept : status ≡ 6 → (cause : Option (String Global)) × gives cause × SaysCause cause said quiet
  pub unroomed : status ≡ 8 → said unroomed_line
  pub silent : status ≢ 4 → status ≢ 6 → status ≢ 8 → quiet
