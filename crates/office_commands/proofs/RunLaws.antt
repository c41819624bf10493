-- The run of a day under limits that differ by their backlog alone.
use Rattle.std.proofs.Common.{◌≡◌, ◌+◌, ◌*◌, ℕ, List, Option, Some, None, ap, subst}
use Rattle.road_time.specs.declared.day.Limits.{Limits}
use Rattle.road_time.specs.Reads.{LinesRead, reads}
use Rattle.road_io.specs.Within.{ReadsWithin}
use Rattle.ways_crews.specs.Told.{CrewTold}
use Rattle.keep_office.specs.declared.kept.DayRecord.{DayRecord}
use Rattle.keep_office.specs.Office.{Office}
use Rattle.day_reading.specs.Days.{most_of_day}
use Rattle.day_import.specs.Imports.{import_read, unless_kept, answers_read, most_imported}
use Rattle.office_words.specs.declared.command.DayRun.{DayRun}
use Rattle.office_commands.specs.Commands.{row_by, answers_command, import_command}
use Rattle.office_commands.specs.Rests.{HasReadTo, HasReadDay, HasStoppedReading, StopsThere, ReadsUncompared}
use Rattle.office_commands.specs.Starts.{StartsDay, backlog_of}

module _ (run' : DayRun) (own limits : Limits)
    (same : (bytes : List ℕ) (late : ℕ) → reads bytes own late ≡ reads bytes limits late)
    (lines : own.lines ≡ limits.lines) (backlog : own.backlog ≡ backlog_of run' limits) where
  -- the same is answered
  pub answers_same : (bytes : List ℕ) (o : Office) →
      answers_command own run' bytes o ≡ answers_command limits run' bytes o
  answers_same bytes o =
      ap (λ (r : LinesRead). row_by run'.day (answers_read run'.day bytes r.tuples r.refused o))
      (same bytes run'.late)

  -- and kept
  pub import_same : (bytes : List ℕ) (o : Office) →
      import_command own run' bytes o ≡ import_command limits run' bytes o
  import_same bytes o =
      ap (λ (r : LinesRead).
      row_by run'.day (unless_kept (import_read run'.day bytes r.tuples r.refused o) run'.day bytes o))
      (same bytes run'.late)

  module _ (before after : Option (List ℕ)) where
    -- no more is read
    pub within_same : ReadsWithin (most_of_day own) before after → ReadsWithin (most_of_day limits) before after
    within_same h = subst (λ n. ReadsWithin (201 * (n + 1) + 65536) before after) lines h

    -- nor of a day that may be kept
    pub imported_same : (kept : Option DayRecord) → ReadsWithin (most_imported kept own) before after →
        ReadsWithin (most_imported kept limits) before after
    imported_same None h = within_same h
    imported_same (Some kept) h = h

    -- and to where it was
    pub day_same : (status : ℕ) → HasReadDay own run'.late status before after →
        HasReadDay limits run'.late status before after
    day_same status h = record {
      within = within_same h.within;
      to = λ bytes told. subst (λ (r : LinesRead). HasReadTo r.refused status bytes after) (same bytes run'.late)
          (h.to bytes told);
    }

    pub stops_same : (status : ℕ) → StopsThere own run'.late status before after →
        StopsThere limits run'.late status before after
    stops_same status h = λ bytes told s.
        subst (λ (r : LinesRead). HasStoppedReading r.refused bytes after) (same bytes run'.late) (h bytes told s)

    pub uncompared_same : (status : ℕ) → ReadsUncompared (most_of_day own) status before after →
        ReadsUncompared (most_of_day limits) status before after
    uncompared_same status h = λ s. within_same (h s)

  -- and the same jobs are started, of as many tuples as may wait
  pub jobs_same : (bytes : List ℕ) (worked : Type 0) (told now : Option CrewTold) →
      StartsDay run' own.backlog (reads bytes own run'.late).tuples worked told now →
      StartsDay run' (backlog_of run' limits) (reads bytes limits run'.late).tuples worked told now
  jobs_same bytes worked told now h =
      subst (λ (b : ℕ). StartsDay run' b (reads bytes limits run'.late).tuples worked told now) backlog
      (subst (λ (r : LinesRead). StartsDay run' own.backlog r.tuples worked told now) (same bytes run'.late) h)
