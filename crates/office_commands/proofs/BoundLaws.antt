-- How much of an aside was read.
use Rattle.std.proofs.Common.{◌≡◌, ℕ, ◌+◌, ◌*◌, ◌≤◌, true, false, List, [], ◌++◌, length, drop, Option, Some, Ok, Err}
use Rattle.std.proofs.Common.{sym, ap, ◌∙◌, append_assoc, arith}
use Rattle.std.specs.Io.KnownBytes.{Consumes}
use Rattle.std.proofs.lemmas.List.{length-append}
use Rattle.road_io.specs.Cutter.{Cuts, ahead}
use Rattle.road_io.specs.declared.cutter.LineCutter.{LineCutter}
use Rattle.road_io.specs.declared.cutter.LineFault.{LineFault}
use Rattle.day_reading.proofs.StepLaws.{cuts_ok, taken_ok}
use Rattle.day_reading.proofs.BoundLaws.{nothing_there, nothing_taken, front_within}
use Rattle.office_commands.specs.Entries.{HasReadEntries}

-- a line more was taken
pub line_read : (before after : Option (List ℕ)) (line rest bytes : List ℕ) (lines : ℕ) →
    HasReadEntries before lines bytes → Cuts (Ok true) before after line → Consumes before after rest
    → length rest ≤ 201 → HasReadEntries after (lines + 1) bytes
line_read before after line rest bytes lines s cuts takes few =
    let cut = cuts_ok before after line s.now cuts s.ahead_is in
    let front = taken_ok before after rest s.now cut.0 takes s.ahead_is cut.1 in
    record {
      taken = s.taken ++ rest;
      now = cut.0;
      ahead_is = cut.1;
      bytes_are = s.bytes_are ∙ ap (λ xs. s.taken ++ xs) front ∙ sym (append_assoc s.taken rest cut.0);
      few = omega (arith, few, s.few, length-append s.taken rest);
    }

-- the end was reached
pub end_read : (before after : Option (List ℕ)) (line bytes : List ℕ) (lines : ℕ) → HasReadEntries before lines bytes →
    Cuts (Ok false) before after line → HasReadEntries after (lines + 1) bytes
end_read before after line bytes lines s cuts =
    let none = nothing_there before after line s.now cuts s.ahead_is in
    record {
      taken = s.taken;
      now = [];
      ahead_is = none.1;
      bytes_are = s.bytes_are ∙ ap (λ xs. s.taken ++ xs) none.0;
      few = omega (arith, s.few);
    }

-- a fault took nothing
pub fault_read : (f : LineFault) (before after : Option (List ℕ)) (line bytes : List ℕ) (lines : ℕ) →
    HasReadEntries before lines bytes → Cuts (Err f) before after line → HasReadEntries after (lines + 1) bytes
fault_read f before after line bytes lines s cuts = record {
  taken = s.taken;
  now = s.now;
  ahead_is = nothing_taken f before after line s.now cuts s.ahead_is;
  bytes_are = s.bytes_are;
  few = omega (arith, s.few);
}

-- lines and one buffer are within the bound of as many notices
pub lines_within : (c : LineCutter) (left : Option (List ℕ)) (bytes : List ℕ) (lines most : ℕ) →
    HasReadEntries (ahead c left) lines bytes → 201 * lines + 65536 ≤ most → (count : ℕ) × (count ≤ most)
    × (left ≡ Some (drop count bytes))
lines_within c left bytes lines most s enough =
    front_within c left s.taken s.now bytes most s.ahead_is s.bytes_are (omega (arith, s.few, enough))
