use Rattle.std.proofs.Common.{◌≡◌, Some, get_or, sym, ◌∙◌, rules, true}
use Rattle.road_time.specs.Stays.{stay_start, is_charged}
use Rattle.road_time.specs.Sights.{previous}
use Rattle.road_time.specs.declared.road.Tuple.{Tuple}
use Rattle.road_time.specs.declared.road.Tuple.TheVariants.{Report as ReportTuple}
use Rattle.road_time.specs.Tuples.{report_of}
use Rattle.road_rules.proofs.OwedLaws.{owed_toll}
use Rattle.road_rules.proofs.owed.plain_owed.Goals as goal

abbrev none : Tuple
none = ReportTuple (record { time = 0; vid = 0; spd = 0; xway = 0; lane = 0; dir = 0; seg = 0; pos = 0 })

pub returns : goal.returns
returns c = λ x at.
    let start : stay_start c.in_ok-own.own.items ≡ Some c.in-Some-stay_start.start = search rules in
    let is : Some c.in-Some.r ≡ report_of (get_or c.args.tuples.now c.args.position none) = sym c.in-Some.is
    ∙ c.report_of.ensures in
    let charged : is_charged (previous c.in_ok-own.own.items) c.in-Some.r ≡ true = search rules in
    rw (c.in_ok-toll.ensures, c.minute.ensures, c.stretch.ensures)
    (owed_toll c.args.tuples.now c.args.tariffs.now c.args.position none x c.in-Some.r c.in_ok-own.own.items at is
    c.in_ok-own.ensures c.in-Some-stay_start.start charged start)
