use Rattle.std.proofs.Common.{inl, inr, refl, subst}
use Rattle.keep_files.specs.Openings.{FromStore}
use Rattle.keep_files.specs.Refusals.{IsLost}
use Rattle.keep_files.proofs.database.held_again.Goals as goal

-- its file is not found to be ours
pub returns-in-Err-None-clause-told : goal.returns-in-Err-None-clause-told
returns-in-Err-None-clause-told g c =
    let foreign : _ =
    subst (IsLost (g.S.Opens.foreign (FromStore c.args.store)) (g.S.Opens.refuses (FromStore c.args.store)))
    c.in-Err-None.field-0-is c.in-Err-None.ensures.lost in
    inr (refl, foreign)

-- it could not be looked at
pub returns-in-Err-Some-clause-told : goal.returns-in-Err-Some-clause-told
returns-in-Err-Some-clause-told g c =
    inl
    (subst (IsLost (g.S.Opens.foreign (FromStore c.args.store)) (g.S.Opens.refuses (FromStore c.args.store)))
    c.in-Err-Some.field-0-is c.in-Err-Some.ensures.lost)
