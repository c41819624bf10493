use Rattle.std.proofs.Common.{Bool, ◌≡◌, None, ◌++◌, ◌∷◌, [], Option, Some, Result, Ok, Err, refl, sym, subst, ◌∙◌}
use Rattle.std.proofs.Common.{arith}
use Rattle.std.proofs.lemmas.Bool.{cond-true}
use Rattle.road_time.specs.declared.road.Tuple.{Tuple}
use Rattle.day_reading.specs.declared.ending.ReadEnd.{ReadEnd}
use Rattle.day_reading.specs.declared.ending.ReadEnd.TheVariants.{Refused, ReadFault}
use Rattle.road_io.specs.Cutter.{line_number}
use Rattle.day_reading.specs.Days.{IsDigested}
use Rattle.day_reading.specs.Readings.{IsReading, IsGathering, HasReadOf, GivesTuple, GathersOn}
use Rattle.day_reading.proofs.BoundLaws.{day_within, stops_soon}
use Rattle.day_reading.proofs.whole_day.read_day.Goals as goal

-- a tuple that was given is no fault
given_no_fault : (r : Result (Option Tuple) ReadEnd) (x : Tuple) → r ≡ Ok (Some x) → r ≡ Err ReadFault → ⊥
given_no_fault r x e f = cc

pub reading-init : goal.reading-init
reading-init g c =
    let r = c.in-Ok.reader in
    let limits = c.args.limits.now in
    let late = c.args.late in
    let none = sym c.new-tuples.ensures.items in
    record {
      gathering = subst (λ xs. IsGathering r limits late xs) none c.in-Ok.ensures.gathering;
      reading = λ bytes told. subst (λ xs. IsReading r limits late (g.S.Source.left c.args.source.now) bytes xs) none
          (subst (λ o. IsReading r limits late o bytes []) (sym told) (c.in-Ok.ensures.reading bytes));
      read = λ bytes told. subst (λ o. HasReadOf r limits.lines o bytes) (sym told) (c.in-Ok.ensures.read bytes);
      unfailed = c.in-Ok.ensures.unfailed;
      digested = c.in-Ok.ensures.digested;
      same = refl;
      stands = refl;
      still = λ never. never;
    }

pub reading-preserved : goal.reading-preserved
reading-preserved g c =
    let limits = c.args.limits.now in
    let late = c.args.late in
    let new = c.next.new.self in
    let before = c.reading.tuples.items in
    let x = c.in-Ok-Some.tuple in
    let inv = c.reading.invariant in
    let some : c.next.result ≡ Ok (Some x) = cc in
    let pushed : c.push.new.self.items ≡ before ++ x ∷ [] = c.push.ensures.items
    ∙ cond-true _ _ _ c.if-is_err.ensures.negation in
    record {
      gathering =
          subst (λ xs. IsGathering new limits late xs) (sym pushed)
          (subst (λ r. GathersOn r new limits late before) some
          (c.next.ensures.gathers limits late before inv.gathering));
      reading = λ bytes told. subst (λ xs. IsReading new limits late (g.S.Source.left c.next.new.source) bytes xs)
          (sym pushed)
          (subst (λ r. GivesTuple r new limits late (g.S.Source.left c.next.new.source) bytes before) some
          (c.next.ensures.gives limits late bytes before (inv.reading bytes told)));
      read = λ bytes told. c.next.ensures.read limits.lines bytes (inv.read bytes told);
      unfailed = c.next.ensures.unfailed inv.unfailed (given_no_fault c.next.result x some);
      digested = c.next.ensures.digested ∙ inv.digested;
      same = c.next.ensures.same ∙ inv.same;
      stands = c.next.ensures.source.still (λ f. given_no_fault c.next.result x some f.1) ∙ inv.stands;
      still = λ never. c.next.ensures.still inv.unfailed (inv.still never);
    }

pub returns-in-Err-Refused-clause-end : goal.returns-in-Err-Refused-clause-end
returns-in-Err-Refused-clause-end g c = λ bytes told.
    let limits = c.args.limits.now in
    let late = c.args.late in
    let new = c.next.new.self in
    let before = c.reading.tuples.items in
    let res : c.next.result ≡ Err (Refused c.in-Err-Refused.line c.in-Err-Refused.cause) = cc in
    (subst (λ r. GivesTuple r new limits late (g.S.Source.left c.next.new.source) bytes before) res
    (c.next.ensures.gives limits late bytes before (c.reading.invariant.reading bytes told))).1

pub returns-then-is_err-clause-bounded : goal.returns-then-is_err-clause-bounded
returns-then-is_err-clause-bounded g c = λ bytes told.
    let new = c.next.new.self in
    let read = c.next.ensures.read c.args.limits.now.lines bytes (c.reading.invariant.read bytes told) in
    day_within new c.args.limits.now (g.S.Source.left c.next.new.source) bytes read

pub returns-in-Ok-None-clause-bounded : goal.returns-in-Ok-None-clause-bounded
returns-in-Ok-None-clause-bounded g c = λ bytes told.
    let new = c.next.new.self in
    let read = c.next.ensures.read c.args.limits.now.lines bytes (c.reading.invariant.read bytes told) in
    day_within new c.args.limits.now (g.S.Source.left c.next.new.source) bytes read

pub returns-in-Err-Refused-clause-bounded : goal.returns-in-Err-Refused-clause-bounded
returns-in-Err-Refused-clause-bounded g c = λ bytes told.
    let new = c.next.new.self in
    let read = c.next.ensures.read c.args.limits.now.lines bytes (c.reading.invariant.read bytes told) in
    day_within new c.args.limits.now (g.S.Source.left c.next.new.source) bytes read

pub returns-in-Err-ReadFault-clause-bounded : goal.returns-in-Err-ReadFault-clause-bounded
returns-in-Err-ReadFault-clause-bounded g c = λ bytes told.
    let new = c.next.new.self in
    let read = c.next.ensures.read c.args.limits.now.lines bytes (c.reading.invariant.read bytes told) in
    day_within new c.args.limits.now (g.S.Source.left c.next.new.source) bytes read

pub returns-in-Err-NoMemory-clause-bounded : goal.returns-in-Err-NoMemory-clause-bounded
returns-in-Err-NoMemory-clause-bounded g c = λ bytes told.
    let new = c.next.new.self in
    let read = c.next.ensures.read c.args.limits.now.lines bytes (c.reading.invariant.read bytes told) in
    day_within new c.args.limits.now (g.S.Source.left c.next.new.source) bytes read

pub returns-in-Ok-None-clause-left : goal.returns-in-Ok-None-clause-left
returns-in-Ok-None-clause-left g c = λ bytes told.
    let limits = c.args.limits.now in
    let new = c.next.new.self in
    let left = g.S.Source.left c.next.new.source in
    let res : c.next.result ≡ Ok None = cc in
    let gives = subst (λ r. GivesTuple r new limits c.args.late left bytes c.reading.tuples.items) res
    (c.next.ensures.gives limits c.args.late bytes c.reading.tuples.items
    (c.reading.invariant.reading bytes told)) in
    let read = c.next.ensures.read limits.lines bytes (c.reading.invariant.read bytes told) in
    c.whole-end.ensures.left left bytes gives.3 read.1.0

pub returns-in-Ok-None-clause-digested : goal.returns-in-Ok-None-clause-digested
returns-in-Ok-None-clause-digested g c =
    subst (λ (asked : Bool). IsDigested asked c.whole-end.result)
    (c.next.ensures.digested ∙ c.reading.invariant.digested) c.whole-end.ensures.digested

pub returns-in-Err-Refused-clause-left : goal.returns-in-Err-Refused-clause-left
returns-in-Err-Refused-clause-left g c = λ bytes told.
    let new = c.next.new.self in
    let line = c.in-Err-Refused.line in
    let res : c.next.result ≡ Err (Refused line c.in-Err-Refused.cause) = cc in
    let after = c.next.ensures.after line c.in-Err-Refused.cause res in
    let read = c.next.ensures.read c.args.limits.now.lines bytes (c.reading.invariant.read bytes told) in
    stops_soon new.cutter (g.S.Source.left c.next.new.source) new.consumed bytes (line_number new.cutter) line read.1
    new.few_bytes after
