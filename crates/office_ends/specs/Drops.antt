-- What a command `renew BASE` would drop, what it refuses, and how it ends.
use Rattle.std.specs.Prelude.{◌≡◌, ◌≢◌, ℕ, ◌+◌, ◌-◌, ◌==◌, ◌&&◌, nat_lt, not, Bool, false, length, find, List, Option, Some, None, if◌then◌else◌}
use Rattle.std.specs.Io.KnownBytes.{Appends}
use Rattle.road_time.specs.declared.day.SpentRow.{SpentRow}
use Rattle.keep_office.specs.Office.{Office, last_day, rows_between}
use Rattle.keep_office.specs.Renewals.{renew_answer}
use Rattle.keep_office.specs.Renewed.{history_rows, is_fit}
use Rattle.office_ends.specs.declared.ending.Ending.{Ending}
use Rattle.office_ends.specs.declared.ending.Ending.TheVariants.{Drops, KeeperFault, NoMemory}
use Rattle.office_ends.specs.Endings.{ending_of, ending_line, status_of}

-- something is kept, and a base is above the day after the last kept one
abbrev pub is_far : ℕ → ℕ → Bool
is_far base last = nat_lt 0 last && nat_lt (last + 1) base

-- the amounts that a renewal at the day after the last kept one keeps and one at such a base does not
abbrev pub dropped_rows : ℕ → Office → List SpentRow
dropped_rows base o = rows_between o (last_day o - 68) (base - 70)

-- how many amounts go so, where the base is far
abbrev pub dropped : ℕ → Office → Option ℕ
dropped base o = if is_far base (last_day o) then Some (length (dropped_rows base o)) else None

-- so many amounts are named
abbrev pub is_named : Option ℕ → ℕ → Bool
is_named None count = false
is_named (Some named) count = named == count

-- the first of some amounts that a history with a base may not have
abbrev pub first_unfit : ℕ → List SpentRow → Option SpentRow
first_unfit base rows = find (λ r. not (is_fit base r)) rows

-- how the command ends, and the office then
pub record CommandAnswer : Type 0 where
  pub ending : Ending
  pub office : Office

-- beginning anew, where so many amounts go
abbrev pub anew : ℕ → ℕ → Office → CommandAnswer
anew count base o = record {
  ending = ending_of count (first_unfit base (history_rows base o)) (renew_answer base o).outcome;
  office = (renew_answer base o).office;
}

-- where the base is far, that is refused unless the number of the amounts that go is named
abbrev pub answer_by : Option ℕ → ℕ → Office → Option ℕ → CommandAnswer
answer_by named base o None = anew 0 base o
answer_by named base o (Some count) =
    if is_named named count then anew count base o else record { ending = Drops count; office = o }

-- beginning anew at a base, where so many amounts may go
abbrev pub command_answer : Option ℕ → ℕ → Office → CommandAnswer
command_answer named base o = answer_by named base o (dropped base o)

-- the command ends so and leaves that office, unless a call failed or memory ran out
abbrev pub DoesEnding : CommandAnswer → Option Office → Ending → Type 0
DoesEnding a now e = e ≢ KeeperFault → e ≢ NoMemory → (e ≡ a.ending) × (now ≡ Some a.office)

-- the command ended as it should, with its closing line alone, and the office is as it should be; or it says of what it
-- wants that it failed
abbrev pub DoesCommand : CommandAnswer → Option Office → ℕ → Option (List ℕ) → Option (List ℕ) → Type 0
DoesCommand a now status old new =
    status ≢ 5 → status ≢ 6 → status ≢ 8 → (status ≡ status_of a.ending) × Appends old new (ending_line a.ending)
    × (now ≡ Some a.office)
