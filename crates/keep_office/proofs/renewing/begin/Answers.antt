use Rattle.std.proofs.Common.{◌≡◌, ◌∙◌, ◌≤◌, ◌<◌, true, false, length, Some, Option, Result, Ok, Err, sym, subst, ap}
use Rattle.std.specs.List.{AllByRecursion}
use Rattle.road_time.proofs.EachLaws.{weakened}
use Rattle.keep_office.specs.declared.kept.KeepFault.{KeepFault}
use Rattle.keep_office.specs.declared.renewing.Renewal.TheVariants.{Unfit}
use Rattle.keep_office.specs.Renewed.{are_fit, renewed}
use Rattle.keep_office.specs.Renewals.{renewed_if, DoesRenewal}
use Rattle.keep_office.proofs.RenewalHistoryLaws.{IsFit, fits, kept_same, may_be_put}
use Rattle.keep_office.proofs.RenewLaws.{PutDoes, record_is, office_is, put_does, begun_does, halted_does, unfit_does}
use Rattle.keep_office.proofs.renewing.begin.Goals as goal

pub record_of-requires-clause-days : goal.record_of-requires-clause-days
record_of-requires-clause-days g c =
    let fit : are_fit c.args.base c.args.rows.now ≡ true = sym c.are_fit.ensures ∙ c.if-not-are_fit.false in
    weakened (IsFit c.args.base) (λ r. r.day < c.args.base) (λ r f. f.to) c.args.rows.now
    (fits c.args.base c.args.rows.now fit).1

pub record_of-requires-clause-tolls : goal.record_of-requires-clause-tolls
record_of-requires-clause-tolls g c =
    let fit : are_fit c.args.base c.args.rows.now ≡ true = sym c.are_fit.ensures ∙ c.if-not-are_fit.false in
    weakened (IsFit c.args.base) (λ r. r.tolls ≤ 9999999999) (λ r f. f.few) c.args.rows.now
    (fits c.args.base c.args.rows.now fit).1

pub record_of-requires-clause-few : goal.record_of-requires-clause-few
record_of-requires-clause-few g c =
    let fit : are_fit c.args.base c.args.rows.now ≡ true = sym c.are_fit.ensures ∙ c.if-not-are_fit.false in
    (fits c.args.base c.args.rows.now fit).0

pub put_anew-requires : goal.put_anew-requires
put_anew-requires g c =
    let rows = c.args.rows.now in
    let fit : are_fit c.args.base rows ≡ true = sym c.are_fit.ensures ∙ c.if-not-are_fit.false in
    let all = fits c.args.base rows fit in
    let made = c.in-Ok.ensures in
    record {
      fits = may_be_put c.args.base rows c.in-Ok.kept c.requires.based made.base made.short made.rows all.0
          c.requires.rise all.1;
    }

pub returns-then-not-are_fit-clause-does : goal.returns-then-not-are_fit-clause-does
returns-then-not-are_fit-clause-does g c = λ o told is.
    let w = g.K.Keeper.refuses in
    let rows = c.args.rows.now in
    let off : are_fit c.args.base rows ≡ false = sym c.are_fit.ensures ∙ c.if-not-are_fit.true in
    subst (λ t. DoesRenewal w (renewed_if (are_fit c.args.base rows) c.args.base o) o t (Ok Unfit)) (sym told)
    (unfit_does w c.args.base o rows off)

pub returns-in-Ok-put_anew-clause-does : goal.returns-in-Ok-put_anew-clause-does
returns-in-Ok-put_anew-clause-does g c = λ o told is.
    let w = g.K.Keeper.refuses in
    let rows = c.args.rows.now in
    let base = c.args.base in
    let after = g.K.Keeper.told c.put_anew.new.self in
    let fit : are_fit base rows ≡ true = sym c.are_fit.ensures ∙ c.if-not-are_fit.false in
    let made = c.in-Ok.ensures in
    let same = kept_same rows c.requires.rise
    (weakened (IsFit base) (λ r. 0 < r.tolls) (λ r f. f.some) rows (fits base rows fit).1) in
    let record_made = record_is base rows c.in-Ok.kept same made.base made.digest made.bytes made.rows in
    let put = put_does w base o rows c.in-Ok.kept (g.K.Keeper.told c.args.keeper.now) after c.put_anew.result told
    c.put_anew.ensures.state (office_is base o rows c.in-Ok.kept is same record_made) in
    let done : after ≡ Some (renewed base o) =
    subst (λ (r : Result (Unit {0}) KeepFault). PutDoes w base o after r) c.in-Ok-put_anew.is put in
    begun_does w base o rows c.in-Ok.kept after fit is record_made done

pub returns-in-Err-put_anew-clause-does : goal.returns-in-Err-put_anew-clause-does
returns-in-Err-put_anew-clause-does g c = λ o told is.
    let w = g.K.Keeper.refuses in
    let rows = c.args.rows.now in
    let base = c.args.base in
    let after = g.K.Keeper.told c.put_anew.new.self in
    let fit : are_fit base rows ≡ true = sym c.are_fit.ensures ∙ c.if-not-are_fit.false in
    let made = c.in-Ok.ensures in
    let same = kept_same rows c.requires.rise
    (weakened (IsFit base) (λ r. 0 < r.tolls) (λ r f. f.some) rows (fits base rows fit).1) in
    let record_made = record_is base rows c.in-Ok.kept same made.base made.digest made.bytes made.rows in
    let put = put_does w base o rows c.in-Ok.kept (g.K.Keeper.told c.args.keeper.now) after c.put_anew.result told
    c.put_anew.ensures.state (office_is base o rows c.in-Ok.kept is same record_made) in
    halted_does w base o rows c.in-Err-put_anew.fault after fit
    (subst (λ (r : Result (Unit {0}) KeepFault). PutDoes w base o after r) c.in-Err-put_anew.is put)
