use Rattle.std.proofs.Common.{Option, ℕ, List, sym, subst, Some, Ok}
use Rattle.road_time.specs.declared.road.Tuple.{Tuple}
use Rattle.road_time.specs.Reads.{reads}
use Rattle.tuples_text.specs.declared.cause.Cause.{Cause}
use Rattle.office_commands.specs.declared.closing.Closing.{Closing}
use Rattle.office_words.specs.declared.command.Recomputing.TheVariants.{Plainly}
use Rattle.office_commands.specs.Days.{recomputed}
use Rattle.office_commands.specs.Commands.{accidents_command, accidents_of, unless_refused}
use Rattle.office_commands.specs.Endings.{Wrote, code_of}
use Rattle.office_commands.proofs.ClosingLaws.{wrote_nothing}
use Rattle.office_commands.specs.Rests.{HasReadTo}
use Rattle.office_commands.proofs.RestLaws.{to_by, to_stopped}
use Rattle.office_commands.proofs.mishaps.accidents.Goals as goal

pub returns-in-Err-clause-wrote : goal.returns-in-Err-clause-wrote
returns-in-Err-clause-wrote g c = λ bytes o told.
    let old = g.O.Sink.written c.args.sink.now in
    subst (λ (k : Closing). Wrote (accidents_command c.args.limits.now c.args.late bytes o) (Ok (Some k)) old old)
    (sym c.stopped.ensures) (wrote_nothing _ c.in-Err.stop old)

pub returns-in-Ok-clause-wrote : goal.returns-in-Ok-clause-wrote
returns-in-Ok-clause-wrote g c = λ bytes o told.
    let old = g.O.Sink.written c.args.sink.now in
    let new = g.O.Sink.written c.write_accidents.new.sink in
    let read = reads bytes (recomputed Plainly c.args.limits.now) c.args.late in
    subst (λ (r : Option (ℕ × Cause)). Wrote (unless_refused r (accidents_of read.tuples o)) c.write_accidents.result
    old new) (c.in-Ok.ensures.refused bytes told)
    (subst (λ (ts : List Tuple). Wrote (unless_refused c.in-Ok.day.refused (accidents_of ts o)) c.write_accidents.result
    old new) (c.in-Ok.ensures.tuples bytes told) (c.write_accidents.ensures.wrote o))

pub returns-in-Err-clause-reads : goal.returns-in-Err-clause-reads
returns-in-Err-clause-reads g c = record {
  within = c.read_day.ensures.bounded;
  to = λ bytes left.
      let refused = (reads bytes (recomputed Plainly c.args.limits.now) c.args.late).refused in
      subst (λ (k : Closing). HasReadTo refused (code_of (Ok (Some k))) bytes (g.S.Source.left c.read_day.new.source))
      (sym c.stopped.ensures) (to_stopped refused bytes _ c.in-Err.stop);
}

pub returns-in-Ok-clause-reads : goal.returns-in-Ok-clause-reads
returns-in-Ok-clause-reads g c = record {
  within = c.read_day.ensures.bounded;
  to = λ bytes left.
      let refused = (reads bytes (recomputed Plainly c.args.limits.now) c.args.late).refused in
      to_by refused bytes (g.S.Source.left c.read_day.new.source) c.in-Ok.day.refused (code_of c.write_accidents.result)
      (c.in-Ok.ensures.ends bytes left) c.write_accidents.ensures.says;
}
