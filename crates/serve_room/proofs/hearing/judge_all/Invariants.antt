use Rattle.std.proofs.Common.{◌≡◌, ◌≤◌, ◌<◌, ℕ, None, get_or}
use Rattle.serve_room.specs.Judged.{judged}
use Rattle.serve_room.proofs.hearing.judge_all.Given as goal

-- the places below the index were judged, and the others are as they were
abbrev pub invariant-loop-place : goal.invariant-loop-place
invariant-loop-place l =
    ((k : ℕ) → k < l.place-index → get_or l.seats k None ≡ judged l.now (get_or l.initial.seats k None))
    × ((k : ℕ) → l.place-index ≤ k → get_or l.seats k None ≡ get_or l.initial.seats k None)
