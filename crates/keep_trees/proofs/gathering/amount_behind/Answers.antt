use Rattle.std.proofs.Common.{rules, ◌≡◌, pos, true, take, sym, ap, subst, ◌∙◌, arith, to_z, of_z, w64, IsTrue}
use Rattle.std.proofs.lemmas.Result.{err_from_is_err_and}
use Rattle.sqlite_value.specs.declared.value.Value.TheVariants.{Int}
use Rattle.sqlite_value.specs.Order.{Row, column}
use Rattle.sqlite_trees.specs.View.{is_int}
use Rattle.sqlite_store.specs.Db.{trees_in}
use Rattle.keep_trees.specs.Finds.{opens_with, amount_key, HasKey}
use Rattle.keep_trees.specs.Pages.{our_trees}
use Rattle.keep_trees.proofs.SpentLaws.{entry_is, fits_in, key_begins, paid_at, same_row}
use Rattle.keep_trees.proofs.Premise.{differ, is_numbered, not_both}
use Rattle.keep_trees.proofs.gathering.amount_behind.Goals as goal

pub returns-in_err-day-clause-done : goal.returns-in_err-day-clause-done
returns-in_err-day-clause-done g c clean o has at =
    let size = g.P.Pages.size c.args.pages.now in
    let pages = g.P.Pages.pages c.args.pages.now in
    let entry =
    entry_is o.rows (trees_in size our_trees pages 1) (trees_in size our_trees pages 2) c.args.entry.now
    has.holds.office.tables.rows_are has.holds.indexed at in
    let fits = fits_in o.rows entry.amount has.holds.office.fits.rows entry.among in
    absurd (c.in_err-day.ensures.1 entry.amount.day fits.0 (ap (λ (z : Row). column z 0) entry.is))

pub returns-in_err-vid-clause-done : goal.returns-in_err-vid-clause-done
returns-in_err-vid-clause-done g c clean o has at =
    let size = g.P.Pages.size c.args.pages.now in
    let pages = g.P.Pages.pages c.args.pages.now in
    let entry =
    entry_is o.rows (trees_in size our_trees pages 1) (trees_in size our_trees pages 2) c.args.entry.now
    has.holds.office.tables.rows_are has.holds.indexed at in
    let fits = fits_in o.rows entry.amount has.holds.office.fits.rows entry.among in
    absurd (c.in_err-vid.ensures.1 entry.amount.vid fits.1 (ap (λ (z : Row). column z 1) entry.is))

pub returns-in_err-xway-clause-done : goal.returns-in_err-xway-clause-done
returns-in_err-xway-clause-done g c clean o has at =
    let size = g.P.Pages.size c.args.pages.now in
    let pages = g.P.Pages.pages c.args.pages.now in
    let entry =
    entry_is o.rows (trees_in size our_trees pages 1) (trees_in size our_trees pages 2) c.args.entry.now
    has.holds.office.tables.rows_are has.holds.indexed at in
    let fits = fits_in o.rows entry.amount has.holds.office.fits.rows entry.among in
    absurd (c.in_err-xway.ensures.1 entry.amount.xway fits.2 (ap (λ (z : Row). column z 2) entry.is))

pub returns-in_err-number-clause-done : goal.returns-in_err-number-clause-done
returns-in_err-number-clause-done g c clean o has at =
    let size = g.P.Pages.size c.args.pages.now in
    let pages = g.P.Pages.pages c.args.pages.now in
    let entry =
    entry_is o.rows (trees_in size our_trees pages 1) (trees_in size our_trees pages 2) c.args.entry.now
    has.holds.office.tables.rows_are has.holds.indexed at in
    let fits = fits_in o.rows entry.amount has.holds.office.fits.rows entry.among in
    let number = is_numbered has entry.row entry.at in
    let same : column entry.row 0 ≡ column c.args.entry.now 3 =
    entry.numbered ∙ sym (ap (λ (z : Row). column z 3) entry.is) in
    absurd (not_both (subst (λ v. IsTrue (is_int v)) same number) c.in_err-number.ensures.1)

pub returns-in_err-tolls-clause-done : goal.returns-in_err-tolls-clause-done
returns-in_err-tolls-clause-done g c clean o has at =
    let size = g.P.Pages.size c.args.pages.now in
    let pages = g.P.Pages.pages c.args.pages.now in
    let entry =
    entry_is o.rows (trees_in size our_trees pages 1) (trees_in size our_trees pages 2) c.args.entry.now
    has.holds.office.tables.rows_are has.holds.indexed at in
    let fits = fits_in o.rows entry.amount has.holds.office.fits.rows entry.among in
    let d : entry.amount.day ≡ c.in_ok-day.day =
    (let e : Int (pos entry.amount.day) ≡ Int (pos c.in_ok-day.day) =
    sym (ap (λ (z : Row). column z 0) entry.is) ∙ c.in_ok-day.ensures in cc) in
    let v : entry.amount.vid ≡ c.in_ok-vid.vid =
    (let e : Int (pos entry.amount.vid) ≡ Int (pos c.in_ok-vid.vid) =
    sym (ap (λ (z : Row). column z 1) entry.is) ∙ c.in_ok-vid.ensures in cc) in
    let x : entry.amount.xway ≡ c.in_ok-xway.xway =
    (let e : Int (pos entry.amount.xway) ≡ Int (pos c.in_ok-xway.xway) =
    sym (ap (λ (z : Row). column z 2) entry.is) ∙ c.in_ok-xway.ensures in cc) in
    let id = to_z w64 (of_z w64 c.in_ok-number.number) in
    let whole : id ≡ c.in_ok-number.number = search rules in
    let key : HasKey (trees_in size our_trees pages 2)
    (amount_key c.in_ok-day.day c.in_ok-vid.vid c.in_ok-xway.xway) c.args.entry.now true = (
      at,
      ap (opens_with (amount_key c.in_ok-day.day c.in_ok-vid.vid c.in_ok-xway.xway)) entry.is
          ∙ key_begins c.in_ok-day.day c.in_ok-vid.vid c.in_ok-xway.xway entry.amount entry.number (d, v, x),
    ) in
    let p = err_from_is_err_and c.from_residual-in_err-tolls.result c.from_residual-in_err-tolls.ensures.1 in
    rw (p.1, p.2)
    ((c.in_err-tolls.ensures.done (omega arith)) o has c.args.entry.now key
    (c.in_ok-number.ensures ∙ ap Int (sym whole)))

pub returns-clause-done : goal.returns-clause-done
returns-clause-done g c clean o has at s among keys =
    let size = g.P.Pages.size c.args.pages.now in
    let pages = g.P.Pages.pages c.args.pages.now in
    let entry =
    entry_is o.rows (trees_in size our_trees pages 1) (trees_in size our_trees pages 2) c.args.entry.now
    has.holds.office.tables.rows_are has.holds.indexed at in
    let fits = fits_in o.rows entry.amount has.holds.office.fits.rows entry.among in
    let d : entry.amount.day ≡ c.in_ok-day.day =
    (let e : Int (pos entry.amount.day) ≡ Int (pos c.in_ok-day.day) =
    sym (ap (λ (z : Row). column z 0) entry.is) ∙ c.in_ok-day.ensures in cc) in
    let v : entry.amount.vid ≡ c.in_ok-vid.vid =
    (let e : Int (pos entry.amount.vid) ≡ Int (pos c.in_ok-vid.vid) =
    sym (ap (λ (z : Row). column z 1) entry.is) ∙ c.in_ok-vid.ensures in cc) in
    let x : entry.amount.xway ≡ c.in_ok-xway.xway =
    (let e : Int (pos entry.amount.xway) ≡ Int (pos c.in_ok-xway.xway) =
    sym (ap (λ (z : Row). column z 2) entry.is) ∙ c.in_ok-xway.ensures in cc) in
    let id = to_z w64 (of_z w64 c.in_ok-number.number) in
    let whole : id ≡ c.in_ok-number.number = search rules in
    let key : HasKey (trees_in size our_trees pages 2)
    (amount_key c.in_ok-day.day c.in_ok-vid.vid c.in_ok-xway.xway) c.args.entry.now true = (
      at,
      ap (opens_with (amount_key c.in_ok-day.day c.in_ok-vid.vid c.in_ok-xway.xway)) entry.is
          ∙ key_begins c.in_ok-day.day c.in_ok-vid.vid c.in_ok-xway.xway entry.amount entry.number (d, v, x),
    ) in
    let tolls =
    (c.in_ok-tolls.ensures.done (omega arith)) o has c.args.entry.now key
    (c.in_ok-number.ensures ∙ ap Int (sym whole)) in
    let names = sym keys ∙ ap (take 3) entry.is in
    let sd : s.day ≡ c.in_ok-day.day =
    (let e : Int (pos s.day) ≡ Int (pos entry.amount.day) = ap (λ (z : Row). column z 0) names in
    let f : s.day ≡ entry.amount.day = cc in f ∙ d) in
    let sv : s.vid ≡ c.in_ok-vid.vid =
    (let e : Int (pos s.vid) ≡ Int (pos entry.amount.vid) = ap (λ (z : Row). column z 1) names in
    let f : s.vid ≡ entry.amount.vid = cc in f ∙ v) in
    let sx : s.xway ≡ c.in_ok-xway.xway =
    (let e : Int (pos s.xway) ≡ Int (pos entry.amount.xway) = ap (λ (z : Row). column z 2) names in
    let f : s.xway ≡ entry.amount.xway = cc in f ∙ x) in
    same_row c.in_ok-day.day c.in_ok-vid.vid c.in_ok-xway.xway c.in_ok-tolls.tolls s (sym sd) (sym sv) (sym sx)
    (tolls ∙ paid_at o.rows s c.in_ok-day.day c.in_ok-vid.vid c.in_ok-xway.xway sd sv sx (differ has) among)

pub returns-clause-told : goal.returns-clause-told
returns-clause-told g c clean db are =
    let id = to_z w64 (of_z w64 c.in_ok-number.number) in
    let whole : id ≡ c.in_ok-number.number = search rules in
    let tolls = c.in_ok-tolls.ensures.honest clean db are in
    record {
      day = c.in_ok-day.ensures;
      vid = c.in_ok-vid.ensures;
      xway = c.in_ok-xway.ensures;
      number = id;
      named = c.in_ok-number.ensures ∙ ap Int (sym whole);
      row = tolls.0;
      found = tolls.1;
      has = tolls.2;
    }
