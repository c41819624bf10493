-- A vehicle's reports in the newest of its minutes and in the two before, counted.
use Rattle.std.specs.Prelude.{ℕ, ◌+◌, ◌==◌, nat_lt, if◌then◌else◌}
use Rattle.tuples_text.specs.declared.recent.Recent.{Recent}

-- the reports of a minute that are kept of a vehicle
abbrev pub count_in : Recent → ℕ → ℕ
count_in r minute =
    if nat_lt r.minute minute then 0
    else if r.minute == minute then r.newest
    else if r.minute == minute + 1 then r.before
    else if r.minute == minute + 2 then r.earlier
    else 0

-- a first report
abbrev pub first_in : ℕ → Recent
first_in minute = record { minute = minute; newest = 1; before = 0; earlier = 0 }

-- one report more, in a later minute than the newest one's
abbrev pub moved : Recent → ℕ → Recent
moved r minute = record {
  minute = minute;
  newest = 1;
  before = if minute == r.minute + 1 then r.newest else 0;
  earlier = if minute == r.minute + 1 then r.before else if minute == r.minute + 2 then r.newest else 0;
}

-- one report more
abbrev pub noted : Recent → ℕ → Recent
noted r minute =
    if nat_lt r.minute minute then moved r minute
    else if r.minute == minute then record {
      minute = r.minute;
      newest = r.newest + 1;
      before = r.before;
      earlier =
          r.earlier;
    }
    else if r.minute == minute + 1 then record {
      minute = r.minute;
      newest = r.newest;
      before = r.before + 1;
      earlier =
          r.earlier;
    }
    else if r.minute == minute + 2 then record {
      minute = r.minute;
      newest = r.newest;
      before = r.before;
      earlier =
          r.earlier + 1;
    }
    else r
