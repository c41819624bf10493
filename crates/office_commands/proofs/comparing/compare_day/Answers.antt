use Rattle.std.proofs.Common.{◌≡◌, ◌∙◌, ℕ, List, IsOk, length, [], Option, Some, None, refl, sym, ap, subst, rules}
use Rattle.road_time.specs.declared.road.Notice.{Notice}
use Rattle.road_time.specs.Lines.{lines_of}
use Rattle.tuples_text.specs.declared.cause.Cause.{Cause}
use Rattle.road_io.specs.Within.{ReadsWithin}
use Rattle.office_commands.specs.declared.closing.Closing.{Closing}
use Rattle.office_commands.specs.Closings.{status_of}
use Rattle.office_commands.specs.Commands.{notices_of_day, comparison_by, comparison_of, unless_refused}
use Rattle.office_commands.specs.Differences.{differences_text}
use Rattle.office_commands.specs.declared.difference.Difference.{Difference}
use Rattle.office_commands.specs.declared.closing.Closing.TheVariants.{Refused}
use Rattle.office_commands.specs.Endings.{StandsBefore}
use Rattle.office_commands.specs.Listings.{most_listed}
use Rattle.office_commands.specs.Rests.{SaysBy}
use Rattle.office_commands.proofs.ClosingLaws.{refuses_empty}
use Rattle.office_commands.proofs.RestLaws.{refused_says}
use Rattle.road_time.specs.declared.road.Tuple.{Tuple}
use Rattle.office_commands.specs.Starts.{StartsBulk, SaysCompared}
use Rattle.office_commands.proofs.StartLaws.{bulk_none, bulk_weaker, refused_compared, named_compared}
use Rattle.office_commands.proofs.comparing.compare_day.Goals as goal

pub returns-in-Ok-clause-exact : goal.returns-in-Ok-clause-exact
returns-in-Ok-clause-exact g c =
    λ right lines o told kept rates.
    let day = c.args.day.now in
    let number = c.args.asked.day in
    let refused : day.refused ≡ None = cc in
    let row = comparison_of c.args.asked day.tuples.items (lines_of lines) o in
    let text = differences_text c.compare_notices.new.shown.items in
    let known : c.items.result.now ≡ notices_of_day number day.tuples.items o =
    c.items.ensures
    ∙ c.in-Ok.ensures.exact right o kept rates
    ∙ ap (λ ts. notices_of_day number ts o) c.as_slice.ensures.value in
    subst (λ (r : Option (ℕ × Cause)). StandsBefore (unless_refused r row) c.compare_notices.result text) (sym refused)
    (subst (λ (ns : List Notice). StandsBefore (comparison_by c.args.asked.any_order c.args.asked.show ns (lines_of lines) o)
    c.compare_notices.result text) known (c.compare_notices.ensures.exact lines o told))

pub returns-in-Ok-clause-says : goal.returns-in-Ok-clause-says
returns-in-Ok-clause-says g c =
    let none : c.args.day.now.refused ≡ None = cc in
    subst (λ (r : Option (ℕ × Cause)). SaysBy r (status_of c.compare_notices.result)) (sym none)
    c.compare_notices.ensures.unnamed

pub returns-in-Ok-clause-crew : goal.returns-in-Ok-clause-crew
returns-in-Ok-clause-crew g c = record {
  unused = search rules;
  jobs = (let ok : IsOk c.wanted_notices.result = subst IsOk (sym c.in-Ok.is) refl in
      subst (λ (ts : List Tuple). StartsBulk c.args.asked.how ts (SaysCompared (status_of c.compare_notices.result))
      (g.C.Crew.jobs c.args.crew.now) (g.C.Crew.jobs c.wanted_notices.new.crew)) c.as_slice.ensures.value
      (bulk_weaker c.args.asked.how c.as_slice.result.now (IsOk c.wanted_notices.result) _ _ _ (λ said. ok)
      c.wanted_notices.ensures.jobs));
  idle = search rules;
  same = search rules;
}

pub returns-in-Err-clause-exact : goal.returns-in-Err-clause-exact
returns-in-Err-clause-exact g c =
    λ right lines o told kept rates.
    let row = comparison_of c.args.asked c.args.day.now.tuples.items (lines_of lines) o in
    let a = unless_refused c.args.day.now.refused row in
    subst (λ (ds : List Difference). StandsBefore a c.refused.result (differences_text ds)) (sym c.requires.empty)
    (subst (λ (k : Closing). StandsBefore a k []) (sym c.refused.ensures) (refuses_empty a c.in-Err.fault))

pub returns-in-Err-clause-says : goal.returns-in-Err-clause-says
returns-in-Err-clause-says g c =
    let none : c.args.day.now.refused ≡ None = cc in
    subst (λ (r : Option (ℕ × Cause)). SaysBy r (status_of c.refused.result)) (sym none)
    (λ s. refused_says c.in-Err.fault (sym (ap status_of c.refused.ensures) ∙ s))

pub returns-in-Err-clause-crew : goal.returns-in-Err-clause-crew
returns-in-Err-clause-crew g c = record {
  unused = search rules;
  jobs = (subst (λ (ts : List Tuple). StartsBulk c.args.asked.how ts (SaysCompared (status_of c.refused.result))
      (g.C.Crew.jobs c.args.crew.now) (g.C.Crew.jobs c.wanted_notices.new.crew)) c.as_slice.ensures.value
      (bulk_weaker c.args.asked.how c.as_slice.result.now (IsOk c.wanted_notices.result) _ _ _
      (λ said. absurd (refused_compared c.in-Err.fault (subst (λ (k : Closing). SaysCompared (status_of k))
      c.refused.ensures said))) c.wanted_notices.ensures.jobs));
  idle = search rules;
  same = search rules;
}

pub returns-in-Err-clause-by : goal.returns-in-Err-clause-by
returns-in-Err-clause-by g c =
    λ said.
    absurd (refused_compared c.in-Err.fault (subst (λ (k : Closing). SaysCompared (status_of k)) c.refused.ensures
    said))

pub returns-in-Some-clause-exact : goal.returns-in-Some-clause-exact
returns-in-Some-clause-exact g c =
    λ right lines o told kept rates.
    let row = comparison_of c.args.asked c.args.day.now.tuples.items (lines_of lines) o in
    let is : c.args.day.now.refused ≡ Some (c.in-Some.line, c.in-Some.cause) = cc in
    subst (λ (r : Option (ℕ × Cause)). StandsBefore (unless_refused r row) (Refused c.in-Some.line c.in-Some.cause)
    (differences_text c.args.shown.now.items)) (sym is) (refl, ap differences_text c.requires.empty)

pub returns-in-Some-clause-says : goal.returns-in-Some-clause-says
returns-in-Some-clause-says g c =
    let is : c.args.day.now.refused ≡ Some (c.in-Some.line, c.in-Some.cause) = cc in
    subst (λ (r : Option (ℕ × Cause)). SaysBy r 2) (sym is) refl

pub returns-in-Some-clause-crew : goal.returns-in-Some-clause-crew
returns-in-Some-clause-crew g c = record {
  unused = search rules;
  jobs = (bulk_none c.args.asked.how c.args.day.now.tuples.items (SaysCompared 2) _ named_compared);
  idle = search rules;
  same = search rules;
}

pub returns-in-Some-clause-by : goal.returns-in-Some-clause-by
returns-in-Some-clause-by g c =
    λ said. absurd (named_compared said)

pub returns-in-Ok-clause-aside : goal.returns-in-Ok-clause-aside
returns-in-Ok-clause-aside g c = record {
  source_first = search rules;
  bounded = (λ right o kept rates.
      let day = c.args.day.now in
      let number = c.args.asked.day in
      let known : c.items.result.now ≡ notices_of_day number day.tuples.items o =
      c.items.ensures
      ∙ c.in-Ok.ensures.exact right o kept rates
      ∙ ap (λ ts. notices_of_day number ts o) c.as_slice.ensures.value in
      let before = g.A.Source.left c.args.aside.now in
      let after = g.A.Source.left c.compare_notices.new.aside in
      subst (λ (ns : List Notice). ReadsWithin (most_listed c.args.asked.any_order c.args.asked.show (length ns))
      before after) known
      c.compare_notices.ensures.bounded);
  faults = search rules;
}
