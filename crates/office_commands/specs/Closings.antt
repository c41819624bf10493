-- The closing line of each command, byte for byte, and its status.

use Rattle.std.specs.Prelude.{ℕ, ◌==◌, List, ◌++◌, codes, if◌then◌else◌}
use Rattle.std.specs.Fmt.{decimal}
use Rattle.hex.specs.Hex.{encode_lower}
use Rattle.road_time.specs.Text.{notice_text}
use Rattle.tuples_text.specs.Causes.{cause_text}
use Rattle.day_past.specs.Causes.{past_cause_text}
use Rattle.office_commands.specs.declared.entry_text.EntryText.{EntryText}
use Rattle.office_commands.specs.declared.entry_text.EntryText.TheVariants.{Nothing, Malformed, Read}
use Rattle.office_commands.specs.declared.closing.Closing.{Closing}
use Rattle.office_commands.specs.declared.closing.Closing.TheVariants.{Answered, Stored, Already, Agree, TariffPut}
use Rattle.office_commands.specs.declared.closing.Closing.TheVariants.{PastStored, PastAlready, Words, Refused}
use Rattle.office_commands.specs.declared.closing.Closing.TheVariants.{PastRefused, DayPassed, DiffersDay, NoDay}
use Rattle.office_commands.specs.declared.closing.Closing.TheVariants.{PastLate, PastKept, DiffersPast, ReadFault}
use Rattle.office_commands.specs.declared.closing.Closing.TheVariants.{KeeperFault, DiffersLine, NoMemory, Rehearsed}
use Rattle.office_commands.specs.declared.closing.Closing.TheVariants.{Listed, Unsound, Checked}

-- how a line of notices is named
abbrev pub entry_text : EntryText → List ℕ
entry_text Nothing = codes "none"
entry_text Malformed = codes "malformed"
entry_text (Read notice) = notice_text notice

-- the line of a day that is kept from now on, with its counts and what it charges in all
unfoldable pub stored_line : ℕ → ℕ → ℕ → ℕ → List ℕ
stored_line day tuples notices total =
    codes "# stored day "
    ++ (decimal day
    ++ (codes " tuples "
    ++ (decimal tuples
    ++ (codes " notices " ++ (decimal notices ++ (codes " total " ++ (decimal total ++ codes "\n")))))))

-- the line of a day that was kept before, of the same bytes
unfoldable pub already_line : ℕ → ℕ → ℕ → ℕ → List ℕ
already_line day tuples notices total =
    codes "# already day "
    ++ (decimal day
    ++ (codes " tuples "
    ++ (decimal tuples
    ++ (codes " notices " ++ (decimal notices ++ (codes " total " ++ (decimal total ++ codes "\n")))))))

-- the line of a tariff that an expressway has from now on
unfoldable pub tariff_kept_line : ℕ → ℕ → ℕ → ℕ → List ℕ
tariff_kept_line xway crowd speed factor =
    codes "# tariff xway "
    ++ (decimal xway
    ++ (codes " crowd "
    ++ (decimal crowd
    ++ (codes " speed " ++ (decimal speed ++ (codes " factor " ++ (decimal factor ++ codes "\n")))))))

-- the line of a day that is kept of other bytes, with the texts of the digests
unfoldable pub differs_line : ℕ → List ℕ → List ℕ → List ℕ
differs_line day kept found =
    codes "# differs day " ++ (decimal day ++ (codes " kept " ++ (kept ++ (codes " found " ++ (found ++ codes "\n")))))

-- the line of a history that is kept of other bytes, with the texts of the digests
unfoldable pub differs_past_line : ℕ → List ℕ → List ℕ → List ℕ
differs_past_line base kept found =
    codes "# differs past "
    ++ (decimal base ++ (codes " kept " ++ (kept ++ (codes " found " ++ (found ++ codes "\n")))))

-- the end of the line of a rehearsal, with the text of the digest of its notices
unfoldable pub rehearsed_end : ℕ → List ℕ → ℕ → List ℕ
rehearsed_end notices digest total =
    codes " notices "
    ++ (decimal notices ++ (codes " notices-digest " ++ (digest ++ (codes " total " ++ (decimal total ++ codes "\n")))))

-- the line of a rehearsal, with the text of the digest of its file and its end
unfoldable pub rehearsed_line : ℕ → List ℕ → ℕ → List ℕ → List ℕ
rehearsed_line bytes digest tuples rest =
    codes "# rehearsed bytes "
    ++ (decimal bytes ++ (codes " digest " ++ (digest ++ (codes " tuples " ++ (decimal tuples ++ rest)))))

-- the closing line, with its LF
abbrev pub closing_line : Closing → List ℕ
closing_line (Answered day tuples notices) =
    codes "# answered day "
    ++ (decimal day ++ (codes " tuples " ++ (decimal tuples ++ (codes " notices " ++ (decimal notices ++ codes "\n")))))
closing_line (Stored day tuples notices total) = stored_line day tuples notices total
closing_line (Already day tuples notices total) = already_line day tuples notices total
closing_line (Agree notices) = codes "# agree notices " ++ (decimal notices ++ codes "\n")
closing_line (TariffPut xway crowd speed factor) = tariff_kept_line xway crowd speed factor
closing_line (PastStored base rows) =
    codes "# past base " ++ (decimal base ++ (codes " rows " ++ (decimal rows ++ codes "\n")))
closing_line (PastAlready base rows) =
    codes "# already past base " ++ (decimal base ++ (codes " rows " ++ (decimal rows ++ codes "\n")))
closing_line Words = codes "# words\n"
closing_line (Refused line cause) =
    codes "# refused line " ++ (decimal line ++ (codes " " ++ (cause_text cause ++ codes "\n")))
closing_line (PastRefused line cause) =
    codes "# refused line " ++ (decimal line ++ (codes " " ++ (past_cause_text cause ++ codes "\n")))
closing_line (DayPassed day last) =
    codes "# passed day " ++ (decimal day ++ (codes " last " ++ (decimal last ++ codes "\n")))
closing_line (DiffersDay day kept found) = differs_line day (encode_lower kept.bytes) (encode_lower found.bytes)
closing_line (NoDay day) = codes "# no day " ++ (decimal day ++ codes "\n")
closing_line (PastLate last) = codes "# past late last " ++ (decimal last ++ codes "\n")
closing_line (PastKept base) = codes "# past kept base " ++ (decimal base ++ codes "\n")
closing_line (DiffersPast base kept found) = differs_past_line base (encode_lower kept.bytes) (encode_lower found.bytes)
closing_line ReadFault = codes "# read fault\n"
closing_line KeeperFault = codes "# keeper fault\n"
closing_line (DiffersLine line wanted found) =
    codes "# differs line "
    ++ (decimal line
    ++ (codes " wanted " ++ (entry_text wanted ++ (codes " found " ++ (entry_text found ++ codes "\n")))))
closing_line NoMemory = codes "# no memory\n"
closing_line (Rehearsed bytes digest tuples notices notices_digest total) =
    rehearsed_line bytes (encode_lower digest.bytes) tuples
    (rehearsed_end notices (encode_lower notices_digest.bytes) total)
closing_line (Listed days last) = codes "# days " ++ (decimal days ++ (codes " last " ++ (decimal last ++ codes "\n")))
closing_line (Unsound day) = codes "# unsound day " ++ (decimal day ++ codes "\n")
closing_line (Checked day good refused) =
    codes "# checked day "
    ++ (decimal day ++ (codes " good " ++ (decimal good ++ (codes " refused " ++ (decimal refused ++ codes "\n")))))

-- the status that a closing line goes with
abbrev pub status_of : Closing → ℕ
status_of (Answered day tuples notices) = 0
status_of (Stored day tuples notices total) = 0
status_of (Already day tuples notices total) = 0
status_of (Agree notices) = 0
status_of (TariffPut xway crowd speed factor) = 0
status_of (PastStored base rows) = 0
status_of (PastAlready base rows) = 0
status_of Words = 1
status_of (Refused line cause) = 2
status_of (PastRefused line cause) = 2
status_of (DayPassed day last) = 3
status_of (DiffersDay day kept found) = 3
status_of (NoDay day) = 3
status_of (PastLate last) = 3
status_of (PastKept base) = 3
status_of (DiffersPast base kept found) = 3
status_of ReadFault = 4
status_of KeeperFault = 6
status_of (DiffersLine line wanted found) = 7
status_of NoMemory = 8
status_of (Rehearsed bytes digest tuples notices notices_digest total) = 0
status_of (Listed days last) = 0
status_of (Unsound day) = 7
status_of (Checked day good refused) = if refused == 0 then 0 else 2
