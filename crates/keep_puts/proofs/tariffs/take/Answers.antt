use Rattle.std.proofs.Common.{◌≡◌, ℤ, pos, subst, ◌∙◌, to_z, of_z, w64, rules}
use Rattle.std.proofs.lemmas.Result.{on_ok_weaker}
use Rattle.sqlite_trees.specs.Tree.{without_rowid}
use Rattle.sqlite_trees.specs.View.{IsClean, SetsTree}
use Rattle.keep_puts.proofs.TariffLaws.{tariff_taken}
use Rattle.keep_puts.proofs.WriteLaws.{edits}
use Rattle.keep_puts.proofs.tariffs.take.Goals as goal

pub returns-clause-took : goal.returns-clause-took
returns-clause-took g c clean =
    let old = g.S.Store.view c.args.store.now in
    let new = g.S.Store.view c.delete.new.self in
    let whole : to_z w64 (of_z w64 c.from.result) ≡ c.from.result = search rules in
    on_ok_weaker c.delete.result
    (λ (sets : IsClean new → SetsTree old new 5 (without_rowid (to_z w64 (of_z w64 c.from.result)))).
    tariff_taken old new c.args.xway
    (subst (λ (n : ℤ). SetsTree old new 5 (without_rowid n)) (whole ∙ c.from.ensures) (sets clean)))
    c.delete.ensures.ok

pub returns-clause-edits : goal.returns-clause-edits
returns-clause-edits g c clean =
    let old = g.S.Store.view c.args.store.now in
    let new = g.S.Store.view c.delete.new.self in
    let whole : to_z w64 (of_z w64 c.from.result) ≡ c.from.result = search rules in
    on_ok_weaker c.delete.result
    (λ (sets : IsClean new → SetsTree old new 5 (without_rowid (to_z w64 (of_z w64 c.from.result)))).
    edits old new 5 (without_rowid (pos c.args.xway))
    (subst (λ (n : ℤ). SetsTree old new 5 (without_rowid n)) (whole ∙ c.from.ensures) (sets clean)))
    c.delete.ensures.ok
