use Rattle.std.proofs.Common.{[], ◌∙◌, subst, arith}
use Rattle.ways_crews.specs.Told.{WhereTold}
use Rattle.ways_crews.specs.Callers.{IsListingWhereTold}
use Rattle.ways_audit.specs.Jobs.{HasStarted, AddsFindings}
use Rattle.ways_audit.proofs.FoundLaws.{all_found, told_all, told_first, some_started}
use Rattle.ways_audit.proofs.jobs.find_all.Goals as goal

pub finish_rest-whole-requires-clause-out : goal.finish_rest-whole-requires-clause-out
finish_rest-whole-requires-clause-out g c =
    let k = g.C.Crew in
    let s = some_started c.start_all-started.result c.args.width
    (λ w. HasStarted k.out k.number k.holds k.gave k.jobs (k.jobs c.args.crew.now) c.start_all-started.new.crew
    c.args.tariffs.now c.start_all-started.new.tickets.items c.args.tuples.now c.args.width w)
    c.start_all-started.ensures.all c.start_all-started.ensures.first in
    (k.jobs c.args.crew.now, c.args.tariffs.now, s.2.todo, s.2.runs)

pub returns-then-whole-clause-exact : goal.returns-then-whole-clause-exact
returns-then-whole-clause-exact g c = λ e.
    let s = c.in-Ok.ensures.all in
    (c.finish_rest-whole.ensures.found c.if-whole.true _ c.args.tariffs.now s.todo s.runs).right e
    ∙ all_found c.args.tuples.now c.args.tariffs.now c.args.width s.todo s.are

pub returns-then-whole-clause-possible : goal.returns-then-whole-clause-possible
returns-then-whole-clause-possible g c =
    let s = c.in-Ok.ensures.all in
    (c.finish_rest-whole.ensures.found c.if-whole.true _ c.args.tariffs.now s.todo s.runs).possible

pub returns-then-whole-clause-answers : goal.returns-then-whole-clause-answers
returns-then-whole-clause-answers g c =
    let k = g.C.Crew in
    let s = c.in-Ok.ensures.all in
    subst (λ a. WhereTold (AddsFindings c.finish_rest-whole.new.found.items) a (k.answers c.finish_rest-whole.new.crew))
    c.start_all-started.ensures.answers
    (c.finish_rest-whole.ensures.found c.if-whole.true _ c.args.tariffs.now s.todo s.runs).told

pub returns-then-whole-clause-jobs : goal.returns-then-whole-clause-jobs
returns-then-whole-clause-jobs g c =
    let k = g.C.Crew in
    let s = c.in-Ok.ensures.all in
    let t = c.finish_rest-whole.ensures.told (k.jobs c.args.crew.now) c.args.tariffs.now s.todo s.runs in
    told_all c.args.tuples.now c.args.width s.todo (k.jobs c.args.crew.now) (k.jobs c.finish_rest-whole.new.crew) s.are
    (subst (λ r. IsListingWhereTold (k.jobs c.args.crew.now) s.todo [] r (k.jobs c.finish_rest-whole.new.crew))
    (t.1 c.if-whole.true) t.2)

pub returns-else-whole-clause-first : goal.returns-else-whole-clause-first
returns-else-whole-clause-first g c =
    let k = g.C.Crew in
    let s = c.in-Ok.ensures.all in
    let t = c.finish_rest-whole.ensures.told (k.jobs c.args.crew.now) c.args.tariffs.now s.todo s.runs in
    told_first c.args.tuples.now c.args.width c.args.width s.todo t.0 (k.jobs c.args.crew.now)
    (k.jobs c.finish_rest-whole.new.crew) (omega arith) s.are t.2

pub returns-in-Err-clause-first : goal.returns-in-Err-clause-first
returns-in-Err-clause-first g c =
    let k = g.C.Crew in
    let (w, less, s) = c.in-Err.ensures.first in
    let t = c.finish_rest-whole.ensures.told (k.jobs c.args.crew.now) c.args.tariffs.now s.todo s.runs in
    told_first c.args.tuples.now c.args.width w s.todo t.0 (k.jobs c.args.crew.now)
    (k.jobs c.finish_rest-whole.new.crew) less s.are t.2
