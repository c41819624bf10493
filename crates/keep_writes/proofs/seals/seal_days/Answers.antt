use Rattle.std.proofs.Common.{◌≡◌, ◌<◌, pos, [], ◌∷◌, ◌++◌, List, Some, inl, inr, take, get_or, length, sym, ap, subst, ◌∙◌, arith}
use Rattle.std.proofs.lemmas.List.{take_more}
use Rattle.sqlite_value.specs.declared.value.Value.TheVariants.{Int}
use Rattle.sqlite_value.specs.Order.{Row, column}
use Rattle.sqlite.specs.Held.{state}
use Rattle.sqlite.specs.State.{HasCleanDisk}
use Rattle.sqlite.proofs.StateLemmas.{survives_then}
use Rattle.keep_office.specs.declared.kept.DayRecord.{DayRecord}
use Rattle.keep_tables.specs.Stands.{HoldsAs, contents_of}
use Rattle.keep_tables.proofs.PutLaws.{shows_then}
use Rattle.keep_writes.proofs.GrowLaws.{days_under, row_of_day, seal_at, no_day, same_number}
use Rattle.std.proofs.lemmas.Option.{slice_get-get_or}
use Rattle.keep_tables.proofs.StepLaws.{kept_then}
use Rattle.keep_writes.proofs.CauseLaws.{err_handed, kept_inside, survives_self}
use Rattle.keep_writes.proofs.UnmadeRuns.{seals_next}
use Rattle.keep_writes.specs.Unmade.{SealsEach}
use Rattle.keep_writes.proofs.seals.seal_days.Goals as goal

pub days-preserved : goal.days-preserved
days-preserved g c =
    let old = state g.S.Store c.args.tx.now.conn.now in
    let mid = state g.S.Store c.days.tx.conn.now in
    let new = state g.S.Store c.put_seal.new.tx.conn.now in
    let kept = c.days.invariant in
    let i = c.days.row-index in
    let before = λ (clean : HasCleanDisk new). let h : HasCleanDisk mid =
    omega (arith, c.put_seal.ensures.survives.clean) in h in (
      c.put_seal.ensures.same_reference ∙ kept.0,
      survives_then old mid new (λ _. ⊥) (λ _. ⊥) (λ _. ⊥) (λ _ db none. none) (λ _ db none. none) kept.1
          c.put_seal.ensures.survives,
      λ clean inside. (c.in_ok-put_seal.ensures.inside clean (kept.2 (before clean) inside)).mode
          ∙ kept.2 (before clean) inside,
      λ clean here inside. shows_then old mid new (kept.3 (before clean) here inside)
          (c.in_ok-put_seal.ensures.inside clean (kept.2 (before clean) inside)),
      λ clean inside o unsealed seal is.
          let so_far = kept.4 (before clean) inside o unsealed seal is in
          let at = row_of_day o.days i c.row-item.result no_day
          (subst (λ (l : List Row). i < length l) is c.days-test.true) in
          let r : DayRecord = get_or o.days i no_day in
          let row : column c.row-item.result 0 ≡ Int (pos r.day) =
          ap (λ l. column l 0) (c.row-item.is ∙ ap (λ (l : List Row). get_or l i c.row-item.result) is ∙ at.1) in
          let day : r.day ≡ c.in_ok-day.day = same_number r.day c.in_ok-day.day (sym row ∙ c.in_ok-day.ensures.number) in
          let put =
          c.in_ok-put_seal.ensures.puts clean (kept.2 (before clean) inside) []
          (record (contents_of o) { sealed = take i o.days }) so_far r day
          (seal_at o.days i no_day unsealed.seals at.0 ∙ sym seal)
          (days_under o.days i no_day unsealed.sound.days_rise at.0) in
          subst (λ (l : List DayRecord). HoldsAs [] new.now (record (contents_of o) { sealed = l }))
          (sym (take_more o.days i no_day at.0)) put,
      λ clean inside. kept_then old mid new (kept.5 (before clean) inside)
          (kept_inside mid new (c.in_ok-put_seal.ensures.inside clean (kept.2 (before clean) inside))),
      λ clean inside.
          subst (λ (l : List Row). SealsEach g.S.Store c.args.seal.now l c.args.tx.now.conn.now
          c.put_seal.new.tx.conn.now)
          (sym (take_more c.args.days.now c.days.row-index c.row-item.result c.days-test.true
          ∙ ap (λ (r : Row). take c.days.row-index c.args.days.now ++ r ∷ []) (sym c.row-item.is)))
          (seals_next g.S.Store c.args.seal.now (take c.days.row-index c.args.days.now) c.row-item.result
          c.in_ok-day.day c.args.tx.now.conn.now c.days.tx.conn.now c.put_seal.new.tx.conn.now
          c.in_ok-day.ensures.number (kept.6 (before clean) inside)
          (c.in_ok-put_seal.ensures.ran clean (kept.2 (before clean) inside))),
    )

pub returns-in_err-day-clause-refused : goal.returns-in_err-day-clause-refused
returns-in_err-day-clause-refused g c clean inside =
    let old = c.args.tx.now.conn.now in
    let mid = c.days.tx.conn.now in
    let kept = c.days.invariant in
    err_handed c.from_residual.result c.in_err-day.field-0.0 _ c.from_residual.ensures.1
    (record {
      before = mid;
      after = mid;
      inside = kept.2 clean inside;
      refused = record {
        place = c.days.row-index;
        row = c.row-item.result;
        is_one = slice_get-get_or c.args.days.now c.days.row-index c.row-item.result c.days-test.true
            ∙ ap Some (sym c.row-item.is);
        ran = kept.6 clean inside;
        refused = inl c.in_err-day.ensures.unread;
      };
      begun = kept.5 clean inside;
      reached = kept.1;
      left = survives_self (state g.S.Store mid);
    })

pub returns-in_err-put_seal-clause-refused : goal.returns-in_err-put_seal-clause-refused
returns-in_err-put_seal-clause-refused g c clean inside =
    let mid = c.days.tx.conn.now in
    let kept = c.days.invariant in
    let early : HasCleanDisk (state g.S.Store mid) = omega (arith, c.put_seal.ensures.survives.clean) in
    err_handed c.from_residual-in_err-put_seal.result c.in_err-put_seal.field-0.0 _
    c.from_residual-in_err-put_seal.ensures.1
    (record {
      before = mid;
      after = c.put_seal.new.tx.conn.now;
      inside = kept.2 early inside;
      refused = record {
        place = c.days.row-index;
        row = c.row-item.result;
        is_one = slice_get-get_or c.args.days.now c.days.row-index c.row-item.result c.days-test.true
            ∙ ap Some (sym c.row-item.is);
        ran = kept.6 early inside;
        refused = inr (
          c.in_ok-day.day,
          c.in_ok-day.ensures.number,
          c.in_err-put_seal.ensures.text clean (kept.2 early inside),
        );
      };
      begun = kept.5 early inside;
      reached = kept.1;
      left = survives_self (state g.S.Store c.put_seal.new.tx.conn.now);
    })
