-- Findings that all have one toll, by which a crew's own answers are known.
use Rattle.std.specs.Prelude.{◌≡◌, ◌==◌, ℕ, Bool, true, List, map}
use Rattle.std.specs.List.{list_all}
use Rattle.ways_expressway.specs.declared.finding.Finding.{Finding}
use Rattle.ways_crews.specs.declared.places.TicketEntry.{TicketEntry}
use Rattle.ways_crews.specs.declared.places.TicketEntry.TheVariants.{Ran, Waits, Unlisted}

-- a finding with a toll
abbrev pub with_toll : ℕ → Finding → Finding
with_toll toll f = record f { toll = toll }

-- findings with one toll in each
abbrev pub marked : ℕ → List Finding → List Finding
marked toll fs = map (with_toll toll) fs

-- whether findings have that toll
abbrev pub have_toll : ℕ → List Finding → Bool
have_toll toll fs = list_all (λ f. f.toll == toll) fs

-- the job of an entry has run, and its findings have that toll
abbrev pub HasToll : ℕ → TicketEntry → Type 0
HasToll toll (Ran done) = have_toll toll done.findings ≡ true
HasToll toll (Waits job) = ⊥
HasToll toll (Unlisted job) = ⊥
