use Rattle.std.proofs.Common.{◌≡◌, ◌∙◌, inl, inr, ℕ, List, Some, Ok, refl, sym, ap, subst, arith, rules}
use Rattle.office_commands.specs.declared.closing.Closing.{Closing}
use Rattle.office_commands.specs.declared.closing.Closing.TheVariants.{ReadFault, KeeperFault, Words}
use Rattle.office_commands.specs.declared.difference.Difference.{Difference}
use Rattle.office_commands.specs.Closings.{status_of}
use Rattle.office_commands.specs.Commands.{compare_command, compared_tuples}
use Rattle.office_commands.specs.Differences.{differences_text}
use Rattle.office_commands.specs.Endings.{StandsBefore, code_of}
use Rattle.office_commands.specs.Starts.{SaysCompared}
use Rattle.office_commands.proofs.ComparingLaws.{same_row}
use Rattle.office_commands.proofs.ConcludeLaws.{did_unchanged}
use Rattle.office_commands.proofs.KeepingLaws.{kept_same}
use Rattle.office_commands.proofs.OutcomeLaws.{by_keeper}
use Rattle.office_commands.proofs.StartLaws.{bulk_weaker}
use Rattle.office_commands.proofs.telling.compare_and_tell.Goals as goal

-- what the status says of notices that were compared, that of the closing says too
compared_too : (code status : ℕ) → (code ≡ 0 → status ≡ 0) → (code ≡ 7 → status ≡ 7) → SaysCompared code →
    SaysCompared status
compared_too code status none some (inl e) = inl (none e)
compared_too code status none some (inr e) = inr (some e)

pub returns-clause-said : goal.returns-clause-said
returns-clause-said g c = λ e.
    c.compare_source-compared.ensures.lists.said
    (sym (c.tell.ensures.names Words (λ same. let no : ⊥ = cc in no) e))

pub returns-clause-source : goal.returns-clause-source
returns-clause-source g c =
    let reads = c.compare_source-compared.ensures.reads in
    record {
      unused = search rules;
      passed = search rules;
      reads = λ used. record {
        within = reads.within;
        to = λ bytes told. record {
          answered = λ e. (reads.to bytes told).answered
              (c.tell.ensures.says 0 (λ x. omega (arith, x)) (λ x. omega (arith, x)) e);
          compared = λ e. (reads.to bytes told).compared
              (c.tell.ensures.says 7 (λ x. omega (arith, x)) (λ x. omega (arith, x)) e);
          refused_there = λ e. (reads.to bytes told).refused_there
              (c.tell.ensures.says 2 (λ x. omega (arith, x)) (λ x. omega (arith, x)) e);
        };
      };
      rest = search rules;
      bounded = λ o kept. reads.within;
    }

pub returns-clause-aside : goal.returns-clause-aside
returns-clause-aside g c =
    let aside = c.compare_source-compared.ensures.aside in
    record {
      unused = search rules;
      refused_first = λ e. aside.refused_first
          (c.tell.ensures.says 2 (λ x. omega (arith, x)) (λ x. omega (arith, x)) e);
      source_first = λ bytes left more. aside.source_first bytes left more;
      bounded = λ bytes o right told kept. aside.bounded (λ bulk. right refl bulk) bytes o (told refl) (kept refl);
    }

pub returns-clause-read : goal.returns-clause-read
returns-clause-read g c =
    let read = c.compare_source-compared.ensures.read in
    let closing = c.compare_source-compared.result.closing in
    record {
      later = read.later;
      aside_later = read.aside_later;
      cause = λ bad. read.cause (sym (c.tell.ensures.names ReadFault (λ same. let no : ⊥ = cc in no) bad));
      still = λ well quiet. read.still
          (λ is. well
          (c.tell.ensures.alone (λ seven. omega (arith, seven, ap status_of is)) ∙ ap (λ (k : Closing). Ok (Some k)) is))
          tt;
      sure = λ fine aside_fine bad. read.sure fine aside_fine
          (sym (c.tell.ensures.names ReadFault (λ same. let no : ⊥ = cc in no) bad));
    }

pub returns-clause-keeper : goal.returns-clause-keeper
returns-clause-keeper g c =
    let keeper = c.compare_source-compared.ensures.keeper in
    record {
      keeps = λ bytes lines o right told kept.
          kept_same _ (compare_command c.args.terms.limits c.args.terms.asked bytes lines o) _ _ _
          (same_row c.args.terms.limits c.args.terms.asked bytes lines o) (keeper.kept o kept);
      puts = search rules;
      unchanged = λ o kept none. keeper.kept o kept;
      held = search rules;
      unused = search rules;
      faults = by_keeper _ _ _ _ _
          (λ bad. sym (c.tell.ensures.names KeeperFault (λ same. let no : ⊥ = cc in no) bad))
          (λ is. c.tell.ensures.alone (λ seven. omega (arith, seven, ap status_of is))
          ∙ ap (λ (k : Closing). Ok (Some k)) is) keeper.faults;
    }

pub returns-clause-sink : goal.returns-clause-sink
returns-clause-sink g c = record {
  wrote = λ bytes lines o told.
      let a = compare_command c.args.terms.limits c.args.terms.asked bytes lines o in
      let closing = c.compare_source-compared.result.closing in
      c.tell.ensures.wrote a
      (subst (λ (ds : List Difference). StandsBefore a closing (differences_text ds)) (sym c.as_slice.ensures.value)
      (c.compare_source-compared.ensures.exact (λ bulk. told.right bulk) bytes lines o (told.source_is refl)
      (told.aside_is refl) (told.kept_is refl)));
  does = λ bytes lines o told kept.
      let a = compare_command c.args.terms.limits c.args.terms.asked bytes lines o in
      let closing = c.compare_source-compared.result.closing in
      did_unchanged _ a o _ _ _ _ (same_row c.args.terms.limits c.args.terms.asked bytes lines o)
      (c.tell.ensures.wrote a
      (subst (λ (ds : List Difference). StandsBefore a closing (differences_text ds)) (sym c.as_slice.ensures.value)
      (c.compare_source-compared.ensures.exact (λ bulk. told.right bulk) bytes lines o (told.source_is refl)
      (told.aside_is refl) (told.kept_is refl))))
      ((returns-clause-keeper g c).keeps bytes lines o told.right told.source_is kept);
  sums = tt;
  faults = c.tell.ensures.sink;
}

pub returns-clause-crew : goal.returns-clause-crew
returns-clause-crew g c =
    let crew = c.compare_source-compared.ensures.crew in
    record {
      unused = λ none. crew.unused none;
      jobs = λ bytes used told.
          bulk_weaker c.args.terms.asked.how (compared_tuples c.args.terms.limits c.args.terms.asked bytes)
          (SaysCompared (status_of c.compare_source-compared.result.closing)) (SaysCompared (code_of c.tell.result)) _ _
          (compared_too (code_of c.tell.result) (status_of c.compare_source-compared.result.closing)
          (c.tell.ensures.says 0 (λ x. omega (arith, x)) (λ x. omega (arith, x)))
          (c.tell.ensures.says 7 (λ x. omega (arith, x)) (λ x. omega (arith, x)))) (crew.jobs bytes (told refl));
      idle = crew.idle;
      same = crew.same;
    }

pub returns-clause-by : goal.returns-clause-by
returns-clause-by g c = λ said.
    c.compare_source-compared.ensures.by
    (compared_too (code_of c.tell.result) (status_of c.compare_source-compared.result.closing)
    (c.tell.ensures.says 0 (λ x. omega (arith, x)) (λ x. omega (arith, x)))
    (c.tell.ensures.says 7 (λ x. omega (arith, x)) (λ x. omega (arith, x))) said)
