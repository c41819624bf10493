-- The notices of one second in any order: where a second ends, and how many of each notice are still to come.
use Rattle.std.specs.Prelude.{ℕ, ◌-◌, ◌==◌, ◌&&◌, Bool, List, [], ◌∷◌, pos, count_by, unwrap_or, if◌then◌else◌}
use Rattle.std.specs.Ordering.{int_eq}
use Rattle.std.specs.Map.{lookup}
use Rattle.road_time.specs.declared.road.Notice.{Notice}
use Rattle.road_time.specs.declared.road.Notice.TheVariants.{Toll, Alert, Balance, Spent}
use Rattle.ways_audit.specs.declared.numbers.Numbers.{Numbers}

-- the second of a notice
abbrev pub second_of : Notice → ℕ
second_of (Toll vid time lav toll) = time
second_of (Alert time vid seg) = time
second_of (Balance time qid amount) = time
second_of (Spent time qid amount) = time

-- a notice before others that are cut into seconds: it joins the first where that is of its second
abbrev pub joined : Notice → List (List Notice) → List (List Notice)
joined w [] = (w ∷ []) ∷ []
joined w ([] ∷ rest) = (w ∷ []) ∷ rest
joined w ((v ∷ vs) ∷ rest) =
    if second_of v == second_of w then (w ∷ v ∷ vs) ∷ rest else (w ∷ []) ∷ (v ∷ vs) ∷ rest

-- notices cut into seconds: between two that follow one another and are not of one second
abbrev pub seconds : List Notice → List (List Notice)
seconds [] = []
seconds (w ∷ ws) = joined w (seconds ws)

-- the numbers of a notice, which tell it from others
abbrev pub numbers_of : Notice → Numbers
numbers_of (Toll vid time lav toll) =
    record { kind = 0; time = time; name = vid; lav = lav; seg = 0; amount = toll }
numbers_of (Alert time vid seg) =
    record { kind = 1; time = time; name = vid; lav = pos 0; seg = seg; amount = 0 }
numbers_of (Balance time qid amount) =
    record { kind = 2; time = time; name = qid; lav = pos 0; seg = 0; amount = amount }
numbers_of (Spent time qid amount) =
    record { kind = 3; time = time; name = qid; lav = pos 0; seg = 0; amount = amount }

-- the same numbers
abbrev pub same_numbers : Numbers → Numbers → Bool
same_numbers a b = a.kind == b.kind && (a.time == b.time && (a.name == b.name
    && (int_eq a.lav b.lav && (a.seg == b.seg && a.amount == b.amount))))

-- the same notice
abbrev pub same_notice : Notice → Notice → Bool
same_notice a b = same_numbers (numbers_of a) (numbers_of b)

-- how often these numbers are kept
abbrev pub how_many : List (Numbers × ℕ) → Numbers → ℕ
how_many counts p = unwrap_or (lookup (same_numbers p) counts) 0

-- how often a notice is kept by its numbers
abbrev pub still : List (Numbers × ℕ) → Notice → ℕ
still counts x = how_many counts (numbers_of x)

-- how often a notice is among some
abbrev pub count_in : List Notice → Notice → ℕ
count_in ns x = count_by (λ w. same_notice w x) ns

-- how often each notice is, where this one is once less
abbrev pub less : (Notice → ℕ) → Notice → Notice → ℕ
less c x y = if same_notice x y then c x - 1 else c y
