use Rattle.std.proofs.Common.{inl, inr, subst}
use Rattle.keep_files.specs.Causes.{IsOfChecking}
use Rattle.keep_files.specs.Files.{AreLeft}
use Rattle.keep_files.specs.Refusals.{IfFailed, IfForeign}
use Rattle.keep_files.proofs.page_files.stored.Goals as goal

-- the whole file is found in what the look for the store left
pub returns-in-Ok-connected-clause-opened : goal.returns-in-Ok-connected-clause-opened
returns-in-Ok-connected-clause-opened g c =
    let left : _ =
    subst (IfForeign (AreLeft g.D.Disk c.args.files)) c.in-Err-Foreign.field-0-is c.in-Err-Foreign.ensures.left in
    (c.in-Err-Foreign.files, left, c.in-Ok-connected.ensures.opened)

-- no number was drawn
pub returns-in-Err-clause-refused : goal.returns-in-Err-clause-refused
returns-in-Err-clause-refused g c = inl c.in-Err.ensures

-- the look failed
pub returns-in-Err-Failed-clause-refused : goal.returns-in-Err-Failed-clause-refused
returns-in-Err-Failed-clause-refused g c =
    inr (inl (subst (IfFailed IsOfChecking) c.in-Err-Failed.field-0-is c.in-Err-Failed.ensures.failed))

-- what the look left was refused
pub returns-in-Err-connected-clause-refused : goal.returns-in-Err-connected-clause-refused
returns-in-Err-connected-clause-refused g c =
    let left : _ =
    subst (IfForeign (AreLeft g.D.Disk c.args.files)) c.in-Err-Foreign.field-0-is c.in-Err-Foreign.ensures.left in
    inr (inr (c.in-Err-Foreign.files, left, c.in-Err-connected.ensures.refused))
