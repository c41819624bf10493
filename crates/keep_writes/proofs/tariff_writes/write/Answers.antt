use Rattle.std.proofs.Common.{◌≡◌, [], ◌∷◌, Bool, true, false, refl, sym, subst, ◌∙◌, arith, inl, inr, OnOk, IfErr, IsTrue}
use Rattle.sqlite.specs.Held.{state}
use Rattle.sqlite.specs.State.{HasCleanDisk}
use Rattle.road_time.specs.Rates.{benchmark, same_tariff}
use Rattle.keep_office.specs.Kept.{with_tariff_of}
use Rattle.keep_office.specs.Office.{Office}
use Rattle.keep_tables.specs.Stands.{HasOffice}
use Rattle.keep_tables.proofs.TariffWriteLaws.{set_after_taken}
use Rattle.keep_writes.specs.Causes.{RefusedInside}
use Rattle.keep_writes.specs.Runs.{RanAll}
use Rattle.keep_writes.specs.Writes.{taken_text, given_text, given_texts}
use Rattle.keep_writes.proofs.CauseLaws.{err_handed, errs_inside, inside_first, both_ran}
use Rattle.keep_writes.proofs.tariff_writes.write.Goals as goal

pub returns-clause-wrote : goal.returns-clause-wrote
returns-clause-wrote g c clean inside o has =
    let mid = state g.S.Store c.take.new.tx.conn.now in
    let new = state g.S.Store c.give.new.tx.conn.now in
    let early : HasCleanDisk mid = omega (arith, c.give.ensures.survives.clean) in
    let between = with_tariff_of c.args.xway benchmark o in
    let took = c.in_ok-take.ensures.took early inside o has in
    let still : IsTrue mid.in_transaction = (c.in_ok-take.ensures.inside early inside).mode ∙ inside in
    let own : same_tariff c.args.tariff.now benchmark ≡ false = sym c.eq.ensures ∙ c.if-eq.false in
    let gave = c.give.ensures.gave clean still between took own in
    subst (λ (p : Office). OnOk c.give.result (HasOffice new.now p))
    (set_after_taken c.args.xway c.args.tariff.now o has.sound.tariffs own) gave

pub returns-in_err-take-clause-refused : goal.returns-in_err-take-clause-refused
returns-in_err-take-clause-refused g c clean inside =
    err_handed c.from_residual.result c.in_err-take.field-0.0 _ c.from_residual.ensures.1
    (inside_first g.S.Store (taken_text c.args.xway ∷ [])
    (given_texts c.args.xway c.args.tariff.now (same_tariff c.args.tariff.now benchmark)) c.args.tx.now.conn.now
    c.take.new.tx.conn.now _ (c.in_err-take.ensures.refused clean inside))

pub returns-clause-refused : goal.returns-clause-refused
returns-clause-refused g c clean inside =
    let mid = state g.S.Store c.take.new.tx.conn.now in
    let early : HasCleanDisk mid = omega (arith, c.give.ensures.survives.clean) in
    let one = c.in_ok-take.ensures.inside early inside in
    let own : same_tariff c.args.tariff.now benchmark ≡ false = sym c.eq.ensures ∙ c.if-eq.false in
    subst (λ (b : Bool). IfErr c.give.result (RefusedInside g.S.Store
    (taken_text c.args.xway ∷ given_texts c.args.xway c.args.tariff.now b) c.args.tx.now.conn.now
    c.give.new.tx.conn.now)) (sym own)
    (errs_inside g.S.Store (taken_text c.args.xway ∷ []) (given_text c.args.xway c.args.tariff.now ∷ [])
    c.args.tx.now.conn.now c.take.new.tx.conn.now c.give.new.tx.conn.now c.give.result
    (c.in_ok-take.ensures.ran early inside) one c.take.ensures.survives
    (c.give.ensures.refused clean (one.mode ∙ inside)))

pub returns-clause-ran : goal.returns-clause-ran
returns-clause-ran g c clean inside =
    let mid = state g.S.Store c.take.new.tx.conn.now in
    let early : HasCleanDisk mid = omega (arith, c.give.ensures.survives.clean) in
    let one = c.in_ok-take.ensures.inside early inside in
    let own : same_tariff c.args.tariff.now benchmark ≡ false = sym c.eq.ensures ∙ c.if-eq.false in
    subst (λ (b : Bool). OnOk c.give.result (RanAll g.S.Store
    (taken_text c.args.xway ∷ given_texts c.args.xway c.args.tariff.now b) c.args.tx.now.conn.now
    c.give.new.tx.conn.now)) (sym own)
    (both_ran g.S.Store (taken_text c.args.xway ∷ []) (given_text c.args.xway c.args.tariff.now ∷ [])
    c.args.tx.now.conn.now c.take.new.tx.conn.now c.give.new.tx.conn.now c.give.result
    (c.in_ok-take.ensures.ran early inside) (c.give.ensures.ran clean (one.mode ∙ inside)))

pub returns-then-eq-clause-ran : goal.returns-then-eq-clause-ran
returns-then-eq-clause-ran g c clean inside =
    let own : same_tariff c.args.tariff.now benchmark ≡ true = sym c.eq.ensures ∙ c.if-eq.true in
    subst (λ (b : Bool). RanAll g.S.Store (taken_text c.args.xway ∷ given_texts c.args.xway c.args.tariff.now b)
    c.args.tx.now.conn.now c.take.new.tx.conn.now) (sym own) (c.in_ok-take.ensures.ran clean inside)
