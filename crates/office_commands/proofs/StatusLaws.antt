-- What is left of a source by the status that a run ends with.
use Rattle.std.proofs.Common.{◌≡◌, ◌≢◌, ◌⊎◌, inl, inr, ℕ, Bool, true, false, List, Option, Some, refl, sym, ◌∙◌, arith}
use Rattle.road_time.specs.Form.{Fault}
use Rattle.keep_office.specs.Office.{Office}
use Rattle.day_reading.proofs.BoundLaws.{nothing_read}
use Rattle.day_reading.specs.Days.{most_of_day}
use Rattle.office_words.specs.declared.command.Command.{Command}
use Rattle.office_words.specs.declared.command.Recomputing.TheVariants.{Plainly}
use Rattle.road_time.specs.declared.day.Limits.{Limits}
use Rattle.road_time.specs.Reads.{reads}
use Rattle.day_past.specs.Imports.{most_past}
use Rattle.office_commands.specs.Days.{recomputed}
use Rattle.office_commands.specs.Endings.{HoldsSame}
use Rattle.office_commands.specs.Rests.{HasReadTo, HasReadDay, ReadsAsked, LeavesAsKept, ReadsUncompared, ReadsToEnd}
use Rattle.office_commands.proofs.RestLaws.{to_other}
use Rattle.office_words.specs.declared.command.Command.TheVariants as command

-- what holds by the status that a run is to end with holds by the one that it ends with, unless its sink failed or
-- memory ran out
abbrev pub Ended : ℕ → ℕ → Type 0
Ended status code = status ≢ 5 → status ≢ 8 → status ≡ code

-- so what a status says of a reading
to_status : (refused : Option (ℕ × Fault)) (bytes : List ℕ) (left : Option (List ℕ)) (status code : ℕ) →
    Ended status code → HasReadTo refused code bytes left → HasReadTo refused status bytes left
to_status refused bytes left status code same to = record {
  answered = λ s. to.answered (sym (same (λ e. omega (arith, s, e)) (λ e. omega (arith, s, e))) ∙ s);
  compared = λ s. to.compared (sym (same (λ e. omega (arith, s, e)) (λ e. omega (arith, s, e))) ∙ s);
  refused_there = λ s. to.refused_there (sym (same (λ e. omega (arith, s, e)) (λ e. omega (arith, s, e))) ∙ s);
}

-- of the reading of a day
day_status : (limits : Limits) (late status code : ℕ) (before after : Option (List ℕ)) → Ended status code →
    HasReadDay limits late code before after → HasReadDay limits late status before after
day_status limits late status code before after same day = record {
  within = day.within;
  to = λ bytes told. to_status (reads bytes limits late).refused bytes after status code same (day.to bytes told);
}

-- of what is read where nothing is compared
uncompared_status : (most status code : ℕ) (before after : Option (List ℕ)) → Ended status code →
    ReadsUncompared most code before after → ReadsUncompared most status before after
uncompared_status most status code before after same h = λ s. h (moved s)
  where
    moved : (status ≡ 2) ⊎ (status ≡ 6) → (code ≡ 2) ⊎ (code ≡ 6)
    moved (inl s) = inl (sym (same (λ e. omega (arith, s, e)) (λ e. omega (arith, s, e))) ∙ s)
    moved (inr s) = inr (sym (same (λ e. omega (arith, s, e)) (λ e. omega (arith, s, e))) ∙ s)

-- of a check that came to the end
to_end_status : (status code : ℕ) (before after : Option (List ℕ)) → Ended status code → ReadsToEnd code before after →
    ReadsToEnd status before after
to_end_status status code before after same h = λ s. h (moved s)
  where
    moved : (status ≡ 0) ⊎ (status ≡ 2) → (code ≡ 0) ⊎ (code ≡ 2)
    moved (inl s) = inl (sym (same (λ e. omega (arith, s, e)) (λ e. omega (arith, s, e))) ∙ s)
    moved (inr s) = inr (sym (same (λ e. omega (arith, s, e)) (λ e. omega (arith, s, e))) ∙ s)

-- of a run's reading of its source
pub read_status : (limits : Limits) (m : Option Command) (status code : ℕ) (before after : Option (List ℕ)) →
    Ended status code → ReadsAsked limits m code before after → ReadsAsked limits m status before after
read_status limits (Some (command.Answers run')) status code before after same h =
    day_status limits run'.late status code before after same h
read_status limits (Some (command.Import run')) status code before after same h = (
  λ bytes told s. h.0 bytes told (sym (same (λ e. omega (arith, s, e)) (λ e. omega (arith, s, e))) ∙ s),
  uncompared_status (most_of_day limits) status code before after same h.1,
)
read_status limits (Some (command.Compare asked)) status code before after same h =
    day_status (recomputed asked.how limits) asked.late status code before after same h
read_status limits (Some (command.Accidents late)) status code before after same h =
    day_status (recomputed Plainly limits) late status code before after same h
read_status limits (Some (command.Past base)) status code before after same h =
    uncompared_status (most_past limits) status code before after same h
read_status limits (Some (command.Check day late)) status code before after same h =
    to_end_status status code before after same h
read_status limits _ status code before after same h = tt

-- of what a run leaves of its source
pub rest_status : (limits : Limits) (m : Option Command) (status code : ℕ) (o : Office) (bytes : List ℕ)
    (left : Option (List ℕ)) → Ended status code → LeavesAsKept limits m code o bytes left →
    LeavesAsKept limits m status o bytes left
rest_status limits (Some (command.Import run')) status code o bytes left same h =
    λ s. h (sym (same (λ e. omega (arith, s, e)) (λ e. omega (arith, s, e))) ∙ s)
rest_status limits (Some (command.Past base)) status code o bytes left same h = record {
  ended = λ s. h.ended (sym (same (λ e. omega (arith, s, e)) (λ e. omega (arith, s, e))) ∙ s);
  refused_there = λ s. h.refused_there (sym (same (λ e. omega (arith, s, e)) (λ e. omega (arith, s, e))) ∙ s);
}
rest_status limits _ status code o bytes left same h = tt

-- and of what is kept
pub holds_status : (status code : ℕ) (P : Type 0) → Ended status code → status ≢ 5 → HoldsSame code P →
    HoldsSame status P
holds_status status code P same unbroken h = λ well failed room.
    let is = same unbroken room in
    h (λ e. well (is ∙ e)) (λ e. failed (is ∙ e)) (λ e. room (is ∙ e))

-- a source that was not read, after a run that says nothing of a reading
pub read_other : (limits : Limits) (m : Option Command) (code : ℕ) (left : Option (List ℕ)) → code ≢ 0 → code ≢ 7 →
    code ≢ 2 → ReadsAsked limits m code left left
read_other limits (Some (command.Answers run')) code left well parted named =
    record {
      within = nothing_read (most_of_day limits) left;
      to =
          λ bytes told. to_other (reads bytes limits run'.late).refused bytes left code well parted named;
    }
read_other limits (Some (command.Import run')) code left well parted named =
    (λ bytes told s. absurd (named s), λ s. nothing_read (most_of_day limits) left)
read_other limits (Some (command.Compare asked)) code left well parted named =
    record {
      within = nothing_read (most_of_day (recomputed asked.how limits)) left;
      to =
          λ bytes told. to_other (reads bytes (recomputed asked.how limits) asked.late).refused bytes left code well
          parted
          named;
    }
read_other limits (Some (command.Accidents late)) code left well parted named =
    record {
      within = nothing_read (most_of_day (recomputed Plainly limits)) left;
      to =
          λ bytes told. to_other (reads bytes (recomputed Plainly limits) late).refused bytes left code well parted
          named;
    }
read_other limits (Some (command.Past base)) code left well parted named = λ s. nothing_read (most_past limits) left
read_other limits (Some (command.Check day late)) code left well parted named = λ s. absurd (neither s)
  where
    neither : (code ≡ 0) ⊎ (code ≡ 2) → ⊥
    neither (inl s) = well s
    neither (inr s) = named s
read_other limits _ code left well parted named = tt

-- nor of what it leaves of one
pub rest_other : (limits : Limits) (m : Option Command) (code : ℕ) (o : Office) (bytes : List ℕ)
    (left : Option (List ℕ)) → code ≢ 0 → code ≢ 2 → LeavesAsKept limits m code o bytes left
rest_other limits (Some (command.Import run')) code o bytes left well named = λ s. absurd (well s)
rest_other limits (Some (command.Past base)) code o bytes left well named =
    record { ended = λ s. absurd (well s); refused_there = λ s. absurd (named s) }
rest_other limits _ code o bytes left well named = tt

-- after a read fault nothing was put, and what is not put is as it was
pub unread_same : (changes : Bool) (code : ℕ) (P : Type 0) → (changes ≡ true → HoldsSame code P) →
    (changes ≡ false → P) → code ≡ 4 → P
unread_same true code P held same s =
    held refl (λ e. omega (arith, s, e)) (λ e. omega (arith, s, e)) (λ e. omega (arith, s, e))
unread_same false code P held same s = same refl
