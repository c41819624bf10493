-- Tests of whether events can be run on a new carriage.
use Rattle.std.specs.Prelude.{ℕ, ◌==◌, ◌&&◌, nat_le, Bool, true, List, [], ◌∷◌, ◌++◌, length, map}
use Rattle.std.specs.List.{list_all, count_by}
use Rattle.road_time.specs.declared.road.Report.{Report}
use Rattle.road_time.specs.Clock.{minute_of}
use Rattle.road_time.specs.Notes.{distinct}
use Rattle.road_time.specs.Entries.{is_standing}
use Rattle.ways_expressway.specs.declared.lane_event.LaneEvent.{LaneEvent}
use Rattle.ways_expressway.specs.declared.lane_event.LaneEvent.TheVariants.{Seen, Leave}
use Rattle.ways_expressway.specs.Events.{seen, entries, time_told}

-- whether an event may come after others
abbrev pub follows : List LaneEvent → LaneEvent → Bool
follows before (Seen position r begins stopped) = list_all (λ e. nat_le (time_told e) r.time) before
follows before (Leave position time vid place) =
    list_all (λ e. nat_le (time_told e) time) before && is_standing (entries before) vid place

-- whether events may come after others, one by one
abbrev pub all_follow : List LaneEvent → List LaneEvent → Bool
all_follow before [] = true
all_follow before (e ∷ es) = follows before e && all_follow (before ++ e ∷ []) es

-- whether the numbers of a report are in their ranges
abbrev pub numbers_in_range : Report → Bool
numbers_in_range r =
    nat_le r.time 86399
    && (nat_le r.vid 2147483647
    && (nat_le r.spd 100
    && (nat_le r.xway 255 && (nat_le r.lane 4 && (nat_le r.dir 1 && (nat_le r.seg 99 && nat_le r.pos 527999))))))

-- whether Times do not fall
abbrev pub times_rise : List Report → Bool
times_rise [] = true
times_rise (r ∷ rs) = list_all (λ q. nat_le r.time q.time) rs && times_rise rs

-- whether a report is of a vehicle in a minute
abbrev pub is_report_of : ℕ → ℕ → Report → Bool
is_report_of vid minute r = r.vid == vid && minute_of r.time == minute

-- whether each report is one of at most four of its vehicle in its minute
abbrev pub all_rare : List Report → List Report → Bool
all_rare all rs = list_all (λ r. nat_le (count_by (is_report_of r.vid (minute_of r.time)) all) 4) rs

-- whether reports are a day's
abbrev pub are_a_day : List Report → Bool
are_a_day rs =
    list_all numbers_in_range rs
    && (nat_le (length rs) 16000000
    && (times_rise rs && (nat_le (length (distinct (map (λ r. r.vid) rs))) 500000 && all_rare rs rs)))

-- whether events can be run on a new carriage
abbrev pub can_be_run : List LaneEvent → Bool
can_be_run es = all_follow [] es && are_a_day (seen es)
