use Rattle.std.proofs.Common.{refl, ◌==◌, ◌&&◌, not, [], ap, sym, subst, ◌∙◌}
use Rattle.std.specs.List.{cons_option}
use Rattle.road_time.specs.Tolls.{notes_of}
use Rattle.road_time.specs.Entries.{standing_at}
use Rattle.ways_expressway.specs.declared.lane_event.LaneEvent.TheVariants.{Seen}
use Rattle.ways_expressway.specs.Events.{seen, entries}
use Rattle.ways_expressway.specs.Findings.{found_if}
use Rattle.ways_expressway.specs.Kept.{KeptWays}
use Rattle.ways_expressway.specs.Stands.{IsUpTo, last_second}
use Rattle.ways_expressway.proofs.JobLaws.{found_now}
use Rattle.ways_expressway.proofs.StepLaws.{minutes_le, second_le, at_next}
use Rattle.ways_expressway.proofs.ReadyLaws.{next_valid, next_note}
use Rattle.ways_expressway.proofs.KnownLaws.{noted_step}
use Rattle.ways_expressway.proofs.parts.Parts.see.Goals as goal

pub advance-requires-clause-minute : goal.advance-requires-clause-minute
advance-requires-clause-minute c =
    minutes_le c.args.self.now c.requires.0 (Seen c.args.position c.args.report.now c.args.begins c.args.stopped)
    c.requires.1

pub advance-requires-clause-second : goal.advance-requires-clause-second
advance-requires-clause-second c =
    second_le c.args.self.now c.requires.0 (Seen c.args.position c.args.report.now c.args.begins c.args.stopped)
    c.requires.1

pub tell-finding-requires-clause-segment : goal.tell-finding-requires-clause-segment
tell-finding-requires-clause-segment c =
    (next_valid c.requires.0 c.args.position c.args.report.now c.args.begins c.args.stopped c.requires.1.runs).6

pub tell-finding-requires-clause-direction : goal.tell-finding-requires-clause-direction
tell-finding-requires-clause-direction c =
    (next_valid c.requires.0 c.args.position c.args.report.now c.args.begins c.args.stopped c.requires.1.runs).5

pub note-requires-clause-slow : goal.note-requires-clause-slow
note-requires-clause-slow c =
    (next_valid c.requires.0 c.args.position c.args.report.now c.args.begins c.args.stopped c.requires.1.runs).2

pub note-requires-clause-one : goal.note-requires-clause-one
note-requires-clause-one c =
    let at = subst (λ (k : KeptWays). IsUpTo k c.args.report.now.time c.requires.0)
    (sym (c.self.view_is ∙ c.tell-finding.ensures.same))
    (c.advance.ensures.at c.requires.0 (last_second c.requires.0) c.requires.1.stands) in (
      notes_of (seen c.requires.0),
      at.averages,
      next_note c.requires.0 c.args.position c.args.report.now c.args.begins
          c.args.stopped c.requires.1.runs,
    )

pub returns-clause-carried : goal.returns-clause-carried
returns-clause-carried c = λ before ready.
    let r = c.args.report.now in
    let now = subst (λ (k : KeptWays). IsUpTo k r.time before) (sym (c.self.view_is ∙ c.tell-finding.ensures.same))
    (c.advance.ensures.at before (last_second before) ready.stands) in
    let can = next_note before c.args.position r c.args.begins c.args.stopped ready.runs in
    at_next (record { speeds = c.note.new.speeds; stops = c.stop_if.new.stops; tariffs = c.self.inside.tariffs }) before
    (Seen c.args.position r c.args.begins c.args.stopped)
    (c.in_ok-note.ensures.noted (notes_of (seen before)) now.averages can)
    (c.in_ok-stop_if.ensures.stopped (entries before) c.args.position c.args.begins now.standing)
    (c.in_ok-note.ensures.minute ∙ now.minute)
    (c.in_ok-stop_if.ensures.second ∙ now.second)

pub returns-clause-found : goal.returns-clause-found
returns-clause-found c = λ before ready.
    let r = c.args.report.now in
    let at = c.advance.ensures.at before (last_second before) ready.stands in
    let found = c.tell-finding.ensures.told before at
    ∙ ap (λ t. found_if (c.args.begins && not (r.lane == 4)) (notes_of (seen before)) (standing_at (entries before))
    t c.args.position r) c.advance.ensures.tariffs in
    ap (λ o. cons_option o []) found
    ∙ sym (found_now before c.args.self.now.tariffs c.args.position r c.args.begins c.args.stopped)

pub invariant_of-self : goal.invariant_of-self
invariant_of-self c =
    noted_step (record { speeds = c.self.inside.speeds; stops = c.self.inside.stops; tariffs = c.self.inside.tariffs })
    c.self.inside.known.items c.self.invariant
    c.note.new.speeds c.note.ensures.minute c.note.ensures.past c.self.inside.stops refl (λ k. refl)

pub invariant_of-self-in_err-stop_if : goal.invariant_of-self-in_err-stop_if
invariant_of-self-in_err-stop_if c =
    noted_step (record { speeds = c.self.inside.speeds; stops = c.self.inside.stops; tariffs = c.self.inside.tariffs })
    c.self.inside.known.items c.self.invariant
    c.note.new.speeds c.note.ensures.minute c.note.ensures.past c.stop_if.new.stops c.stop_if.ensures.second
    c.stop_if.ensures.last

pub invariant_of-self-2 : goal.invariant_of-self-2
invariant_of-self-2 c =
    noted_step (record { speeds = c.self.inside.speeds; stops = c.self.inside.stops; tariffs = c.self.inside.tariffs })
    c.self.inside.known.items c.self.invariant
    c.note.new.speeds c.note.ensures.minute c.note.ensures.past c.stop_if.new.stops c.stop_if.ensures.second
    c.stop_if.ensures.last
