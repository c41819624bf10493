use Rattle.std.proofs.Common.{◌^◌, Bool, pos, subst, arith, rules}
use Rattle.sqlite_trees.specs.View.{IsClean}
use Rattle.keep_tables.specs.Codec.{day_row, seal_row}
use Rattle.keep_tables.specs.Stands.{FitsDay}
use Rattle.keep_tables.proofs.PutLaws.{below_sum}
use Rattle.keep_puts.specs.Steps.{IfDone, Joins}
use Rattle.keep_puts.proofs.OfficeLaws.{day_made, day_fresh, done_both}
use Rattle.keep_puts.proofs.ClearLaws.{done_then}
use Rattle.keep_puts.proofs.puts.write_day.Goals as goal

pub put_amounts-requires-clause-small : goal.put_amounts-requires-clause-small
put_amounts-requires-clause-small g c =
    below_sum c.args.rows.now (2 ^ 63) (omega (arith, c.requires.fits.sum, c.requires.fits.total))

pub returns-clause-wrote : goal.returns-clause-wrote
returns-clause-wrote g c clean =
    let a = g.S.Store.view c.args.store.now in
    let first = g.S.Store.view c.put_record.new.store in
    let second = g.S.Store.view c.put_seal.new.store in
    let last = g.S.Store.view c.put_amounts.new.store in
    let late : IsClean second = omega (arith, c.put_amounts.ensures.quiet.clean) in
    let early : IsClean first = omega (arith, late, c.put_seal.ensures.quiet.clean) in
    let kept = c.args.kept.now in
    let recorded = Joins 0 (day_row kept) (pos kept.day) a.trees first.trees in
    let sealed = Joins 4 (seal_row kept) (pos kept.day) first.trees second.trees in
    let one : recorded =
    subst (λ (b : Bool). IfDone b recorded) c.if-not-branch.false (c.in_ok-put_record.ensures.done early) in
    let two : sealed =
    subst (λ (b : Bool). IfDone b sealed) c.if-not-branch-2.false (c.in_ok-put_seal.ensures.done late) in
    let fits : FitsDay kept =
    record {
      day = search rules;
      bytes = c.requires.fits.bytes;
      tuples = c.requires.fits.tuples;
      notices = c.requires.fits.notices;
      total = c.requires.fits.total;
      digest = c.in_ok-put_record.ensures.fits.0;
      told = c.in_ok-put_record.ensures.fits.1;
      seal = c.in_ok-put_seal.ensures.fits;
    } in
    done_both c.put_amounts.result _ _ _ c.put_amounts.ensures.fits (c.put_amounts.ensures.adds clean)
    (λ small adds o stand later. day_made a.trees first.trees second.trees last.trees kept c.args.rows.now o
    c.requires.fits fits small one two adds stand later)

pub returns-clause-fresh : goal.returns-clause-fresh
returns-clause-fresh g c clean =
    let a = g.S.Store.view c.args.store.now in
    let first = g.S.Store.view c.put_record.new.store in
    let second = g.S.Store.view c.put_seal.new.store in
    let late : IsClean second = omega (arith, c.put_amounts.ensures.quiet.clean) in
    let early : IsClean first = omega (arith, late, c.put_seal.ensures.quiet.clean) in
    let kept = c.args.kept.now in
    let recorded = Joins 0 (day_row kept) (pos kept.day) a.trees first.trees in
    let sealed = Joins 4 (seal_row kept) (pos kept.day) first.trees second.trees in
    let one : recorded =
    subst (λ (b : Bool). IfDone b recorded) c.if-not-branch.false (c.in_ok-put_record.ensures.done early) in
    let two : sealed =
    subst (λ (b : Bool). IfDone b sealed) c.if-not-branch-2.false (c.in_ok-put_seal.ensures.done late) in
    done_both c.put_amounts.result _ _ _ c.put_amounts.ensures.fits (c.put_amounts.ensures.follow clean)
    (λ small follow. day_fresh a.trees first.trees second.trees kept c.args.rows.now one two follow)

pub returns-clause-puts : goal.returns-clause-puts
returns-clause-puts g c clean =
    let a = g.S.Store.view c.args.store.now in
    let first = g.S.Store.view c.put_record.new.store in
    let second = g.S.Store.view c.put_seal.new.store in
    let late : IsClean second = omega (arith, c.put_amounts.ensures.quiet.clean) in
    let early : IsClean first = omega (arith, late, c.put_seal.ensures.quiet.clean) in
    let kept = c.args.kept.now in
    let recorded = Joins 0 (day_row kept) (pos kept.day) a.trees first.trees in
    let sealed = Joins 4 (seal_row kept) (pos kept.day) first.trees second.trees in
    let one : recorded =
    subst (λ (b : Bool). IfDone b recorded) c.if-not-branch.false (c.in_ok-put_record.ensures.done early) in
    let two : sealed =
    subst (λ (b : Bool). IfDone b sealed) c.if-not-branch-2.false (c.in_ok-put_seal.ensures.done late) in
    done_then c.put_amounts.result _ _ (c.put_amounts.ensures.puts clean)
    (λ puts. record {
      recorded = first.trees;
      sealed = second.trees;
      record_joins = one;
      seal_joins = two;
      amounts = puts;
    })
