-- Where kept amounts part from the right ones.
use Rattle.std.specs.Prelude.{◌==◌, List, [], ◌∷◌, Option, Some, None, if◌then◌else◌}
use Rattle.std.specs.Ordering.{match_ordering}
use Rattle.road_time.specs.declared.day.SpentRow.{SpentRow}
use Rattle.keep_office.specs.Office.{row_cmp}
use Rattle.day_verify.specs.declared.verdict.Parting.{Parting}

-- an amount is kept where none is right
abbrev pub kept_alone : SpentRow → Parting
kept_alone r = record { vid = r.vid; xway = r.xway; kept = r.tolls; right = 0 }

-- no amount is kept where this is right
abbrev pub right_alone : SpentRow → Parting
right_alone r = record { vid = r.vid; xway = r.xway; kept = 0; right = r.tolls }

-- of one vehicle on one expressway this is kept, and that is right
abbrev pub unlike : SpentRow → SpentRow → Parting
unlike k r = record { vid = k.vid; xway = k.xway; kept = k.tolls; right = r.tolls }

-- where the first of kept amounts and the first right one part: at the earlier key, or by their tolls
abbrev pub parting_at : SpentRow → SpentRow → Option Parting
parting_at k r =
    match_ordering (row_cmp k r) (Some (kept_alone k)) (if k.tolls == r.tolls then None else Some (unlike k r))
    (Some (right_alone r))

-- a parting, or else what comes after it
abbrev pub or_later : Option Parting → Option Parting → Option Parting
or_later (Some p) later = Some p
or_later None later = later

-- where kept amounts first part from the right ones, both in order
abbrev pub parting : List SpentRow → List SpentRow → Option Parting
parting [] [] = None
parting [] (r ∷ rs) = Some (right_alone r)
parting (k ∷ ks) [] = Some (kept_alone k)
parting (k ∷ ks) (r ∷ rs) = or_later (parting_at k r) (parting ks rs)
