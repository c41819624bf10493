-- Whether the notices found are those wanted, or where they part first.
use Rattle.std.specs.Prelude.{◌≡◌, ◌≤◌, ◌-◌, List, take, slice_get}
use Rattle.road_time.specs.declared.road.Notice.{Notice}
use Rattle.road_rules.specs.declared.verdict.Verdict.{Verdict}
use Rattle.road_rules.specs.declared.verdict.Verdict.TheVariants.{Agree, Differs}

-- lists agree, or part first at a line, from 1, with what they have there
abbrev pub IsVerdict : List Notice → List Notice → Verdict → Type 0
IsVerdict wanted found Agree = wanted ≡ found
IsVerdict wanted found (Differs line here there) =
    (1 ≤ line) × (take (line - 1) wanted ≡ take (line - 1) found) × (here ≡ slice_get wanted (line - 1))
    × (there ≡ slice_get found (line - 1)) × (here ≡ there → ⊥)
