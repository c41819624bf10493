use Rattle.std.proofs.Common.{◌≡◌, ◌-◌, ◌∙◌, inl, inr, refl, ap, subst, arith, drop, Some}
use Rattle.std.specs.Io.KnownBytes.{prepend_known, Appends}
use Rattle.day_import.specs.Imports.{answers_answer, Does}
use Rattle.serve_requests.specs.AskedBodies.{filled}
use Rattle.serve_desk.specs.Streams.{WritesPart}
use Rattle.serve_desk.proofs.ReadLaws.{fits}
use Rattle.serve_desk.proofs.StreamLaws.{same_answer, endless_takes, endless_stays}
use Rattle.serve_desk.proofs.streaming.stream_day.Goals as goal

pub returns-in-Ok-clause-streams : goal.returns-in-Ok-clause-streams
returns-in-Ok-clause-streams g c = λ all o known told exact.
    let s = c.settle in
    let p = c.put_all in
    let soon = c.streamed in
    let old = g.O.Sink.written c.args.out.now in
    let mid = g.O.Sink.written p.new.sink in
    let new = g.O.Sink.written s.new.out in
    let bytes = filled c.args.count all in
    inl (
      mid,
      subst (λ t. Appends old mid t) c.stream_head.ensures c.in-Ok.ensures.bytes,
      same_answer g.K.Keeper.refuses c.args.work.day soon.result c.args.work.limits bytes o mid new _ s.result.outcome
          (soon.ensures.same bytes 0)
          (subst (λ n. Does g.K.Keeper.refuses (answers_answer c.args.work.day 0 soon.result bytes o) o mid new n
          s.result.outcome) (s.ensures.kept ∙ told) (s.ensures.does all o known told exact)),
    )

pub returns-in-Ok-clause-fits : goal.returns-in-Ok-clause-fits
returns-in-Ok-clause-fits g c =
    let s = c.settle in
    fits c.args.count (prepend_known c.args.early.now (g.L.Link.left c.args.link.now)) s.result.early.now
    (g.L.Link.left s.new.link) s.result.read s.ensures.reads

pub returns-in-Err-clause-reads : goal.returns-in-Err-clause-reads
returns-in-Err-clause-reads g c = (
  c.requires.few,
  omega arith,
  λ all known. (let none : 0 ≡ c.args.count - c.args.count = omega arith in
      (known ∙ ap (λ n. Some (drop n all)) none, omega arith)),
)

pub returns-in-Err-clause-streams : goal.returns-in-Err-clause-streams
returns-in-Err-clause-streams g c = λ all o known told exact.
    let p = c.put_all in
    inr (
      refl,
      subst (λ t. WritesPart t (g.O.Sink.written c.args.out.now) (g.O.Sink.written p.new.sink)) c.stream_head.ensures
          c.in-Err.ensures.bytes,
    )

pub returns-in-Err-clause-sink_sure : goal.returns-in-Err-clause-sink_sure
returns-in-Err-clause-sink_sure g c = λ endless is. endless_takes _ _ _ endless c.in-Err.ensures.full

pub returns-in-Ok-clause-sink_sure : goal.returns-in-Ok-clause-sink_sure
returns-in-Ok-clause-sink_sure g c = λ endless.
    (c.settle.ensures.sink.sure (endless_stays _ _ _ endless c.in-Ok.ensures.took)).0

pub returns-in-Ok-clause-sink_endless : goal.returns-in-Ok-clause-sink_endless
returns-in-Ok-clause-sink_endless g c = λ endless.
    (c.settle.ensures.sink.sure (endless_stays _ _ _ endless c.in-Ok.ensures.took)).1

pub returns-in-Ok-clause-sink_cause : goal.returns-in-Ok-clause-sink_cause
returns-in-Ok-clause-sink_cause g c = λ is.
    let r = c.settle.ensures.sink.cause is in
    omega (arith, r, c.in-Ok.ensures.cause.later)

pub returns-in-Err-clause-sink_endless : goal.returns-in-Err-clause-sink_endless
returns-in-Err-clause-sink_endless g c = λ endless. absurd (endless_takes _ _ _ endless c.in-Err.ensures.full)
