-- Days that are read whole, or up to the first line that is refused.
use Rattle.std.specs.Prelude.{ℕ, ◌≡◌, ◌≤◌, ◌+◌, ◌-◌, ◌*◌, ◌^◌, ◌<◌, List, [], length, take, drop}
use Rattle.std.specs.Prelude.{Bool, Option, Some, None, is_some}
use Rattle.road_time.specs.declared.day.Limits.{Limits}
use Rattle.road_time.specs.Lines.{lines_of}
use Rattle.road_time.specs.Form.{Fault}
use Rattle.tuples_text.specs.Causes.{cause_of}
use Rattle.road_digest.specs.declared.digest.Digest.{Digest}
use Rattle.road_digest.specs.Digests.{digest_of}
use Rattle.day_reading.specs.declared.whole_day.DayEnd.{DayEnd}
use Rattle.day_reading.specs.declared.whole_day.DayEnd.TheVariants.{Whole, Refused}

-- a digest is that of these bytes, if it was asked
abbrev pub IsDigestOf : Option Digest → List ℕ → Type 0
IsDigestOf (Some digest) bytes = digest ≡ digest_of bytes
IsDigestOf None bytes = Unit {0}

-- how the reading of these bytes ended: at their end, or at the first line that is refused
abbrev pub EndsReading : DayEnd → List ℕ → Option (ℕ × Fault) → Type 0
EndsReading (Whole n digest) bytes refused = (refused ≡ None) × (n ≡ length bytes) × IsDigestOf digest bytes
EndsReading (Refused line cause) bytes refused = (fault : Fault) × (refused ≡ Some (line, fault))
    × (cause_of fault ≡ cause)

-- of a day that was read whole there is a digest where one was asked
abbrev pub IsDigested : Bool → DayEnd → Type 0
IsDigested asked (Whole n digest) = is_some digest ≡ asked
IsDigested asked (Refused line cause) = Unit {0}

-- a day of fewer than 2^63 bytes
abbrev pub IsShortDay : DayEnd → Type 0
IsShortDay (Whole n digest) = n < 2 ^ 63
IsShortDay (Refused line cause) = Unit {0}

-- the most that a day is read: a line more than it may have, each of 200 bytes and its end, and one buffer
abbrev pub most_of_day : Limits → ℕ
most_of_day limits = 201 * (limits.lines + 1) + 65536

-- so many bytes of a source were read, and but for one buffer they are no more than its first so many lines, and no
-- more than 201 bytes for each of these: of a longer line no more is read
abbrev pub StopsSoon : ℕ → List ℕ → Option (List ℕ) → Type 0
StopsSoon line bytes left = (count : ℕ) × (left ≡ Some (drop count bytes))
    × (length (lines_of (take (count - 65536) bytes)) ≤ line) × (count ≤ 201 * line + 65536)

-- what the reading of a day leaves of the source: nothing of a whole day, and no less than all but one buffer behind a
-- refused line
abbrev pub LeavesBehind : DayEnd → List ℕ → Option (List ℕ) → Type 0
LeavesBehind (Whole n digest) bytes left = left ≡ Some []
LeavesBehind (Refused line cause) bytes left = StopsSoon line bytes left
